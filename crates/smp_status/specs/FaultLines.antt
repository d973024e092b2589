-- The line that is put for a refusal: its number, and what was wrong.
use Rattle.std.specs.Prelude.{ℕ, List, ◌++◌, Option, Some, None, codes}
use Rattle.std.specs.Fmt.{decimal}
use Rattle.smp_design.specs.declared.fault.DesignFault.{DesignFault}
use Rattle.smp_design.specs.declared.fault.DesignFault.TheVariants as design_fault
use Rattle.smp_frame.specs.declared.fault.FrameFault.{FrameFault}
use Rattle.smp_frame.specs.declared.fault.FrameFault.TheVariants as frame_fault
use Rattle.smp_strata.specs.declared.misfit.Misfit.{Misfit}
use Rattle.smp_strata.specs.declared.misfit.Misfit.TheVariants as misfits
use Rattle.smp_status.specs.declared.status.Status.{Status}
use Rattle.smp_status.specs.declared.status.Status.TheVariants as status
use Rattle.smp_status.specs.Codes.{Class, IsUsage, IsRefusal, class_of}

abbrev pub design_line : DesignFault → Option (List ℕ)
design_line design_fault.Syntax = Some (codes "error 3.1 design isn't TOML\n")
design_line design_fault.Version = Some (codes "error 3.2 version\n")
design_line (design_fault.UnknownKey name) = Some (codes "error 3.3 unknown key " ++ (name ++ codes "\n"))
design_line (design_fault.MissingKey name) = Some (codes "error 3.4 missing key " ++ (name ++ codes "\n"))
design_line (design_fault.BadValue key) = Some (codes "error 3.5 bad value of " ++ (key ++ codes "\n"))
design_line (design_fault.Clash first second) = Some (codes "error 3.6 " ++ (first ++ (codes " clashes with " ++ (second ++ codes "\n"))))
design_line design_fault.NoMemory = None

abbrev pub frame_line : FrameFault → Option (List ℕ)
frame_line frame_fault.NoHeader = Some (codes "error 4.1 no header\n")
frame_line (frame_fault.MissingColumn name) = Some (codes "error 4.2 missing column " ++ (name ++ codes "\n"))
frame_line (frame_fault.RepeatedColumn name) = Some (codes "error 4.3 repeated column " ++ (name ++ codes "\n"))
frame_line (frame_fault.RowLength row) = Some (codes "error 4.4 length of row " ++ (decimal row ++ codes "\n"))
frame_line (frame_fault.NotNumber row column) =
    Some (codes "error 4.5 no number in row " ++ (decimal row ++ (codes " column " ++ (column ++ codes "\n"))))
frame_line (frame_fault.TooLarge row column) =
    Some (codes "error 4.6 number too large in row "
    ++ (decimal row ++ (codes " column " ++ (column ++ codes "\n"))))
frame_line (frame_fault.RepeatedId row) = Some (codes "error 4.7 repeated id in row " ++ (decimal row ++ codes "\n"))
frame_line frame_fault.TooManyRows = Some (codes "error 4.8 too many rows\n")
frame_line (frame_fault.NotText row) = Some (codes "error 4.9 row " ++ (decimal row ++ codes " isn't UTF-8\n"))
frame_line frame_fault.NoRows = Some (codes "error 4.10 no rows\n")
frame_line (frame_fault.NotFraction row column) =
    Some (codes "error 4.11 no fraction in row " ++ (decimal row ++ (codes " column " ++ (column ++ codes "\n"))))
frame_line (frame_fault.NotProbability row column) =
    Some (codes "error 4.12 no probability in row "
    ++ (decimal row ++ (codes " column " ++ (column ++ codes "\n"))))
frame_line frame_fault.NoMemory = None

abbrev pub misfit_line : Misfit → Option (List ℕ)
misfit_line (misfits.UnitInTwo psu) = Some (codes "error 5.1 first stage unit in two strata: " ++ (psu ++ codes "\n"))
misfit_line (misfits.PsuTooLarge psu) = Some (codes "error 5.2 first stage unit too large: " ++ (psu ++ codes "\n"))
misfit_line (misfits.NoSize stratum) = Some (codes "error 5.3 no sample size: " ++ (stratum ++ codes "\n"))
misfit_line (misfits.TooMany stratum n positive) =
    Some (codes "error 5.4 " ++ (decimal n
    ++ (codes " asked of " ++ (decimal positive ++ (codes ": " ++ (stratum ++ codes "\n"))))))
misfit_line (misfits.SecondTooMany psu n positive) =
    Some (codes "error 5.5 second stage "
    ++ (decimal n ++ (codes " asked of " ++ (decimal positive ++ (codes ": " ++ (psu ++ codes "\n"))))))
misfit_line (misfits.Denominator stratum) = Some (codes "error 5.6 denominator too large: " ++ (stratum ++ codes "\n"))
misfit_line (misfits.NotWhole stratum sum) =
    Some (codes "error 5.7 sum " ++ (decimal sum.num
    ++ (codes "/" ++ (decimal sum.den ++ (codes " isn't whole: " ++ (stratum ++ codes "\n"))))))
misfit_line (misfits.RowLimit strata variables) =
    Some (codes "error 5.8 " ++ (decimal strata
    ++ (codes " strata and " ++ (decimal variables ++ codes " variables pass 16 rows\n"))))
misfit_line misfits.NoMemory = None

abbrev pub usage_line : List ℕ
usage_line = codes "error 2 usage: sampler COMMAND [OPTIONS], COMMAND is quick, draw, replay, migrate, probs, check, joint or demo\n"

abbrev pub refusal_line : Status → Option (List ℕ)
refusal_line (status.Design fault) = design_line fault
refusal_line (status.Frame fault) = frame_line fault
refusal_line (status.Misfit misfit) = misfit_line misfit
refusal_line (status.TapeText line) = Some (codes "error 6 tape line " ++ (decimal line ++ codes " isn't a number\n"))
refusal_line (status.TapeShort taken) = Some (codes "error 7 tape ends after " ++ (decimal taken ++ codes "\n"))
refusal_line (status.TapeValue place value bound) =
    Some (codes "error 8 tape value " ++ (decimal place
    ++ (codes " is " ++ (decimal value ++ (codes ", bound " ++ (decimal bound ++ codes "\n"))))))
refusal_line (status.TapeLong left) = Some (codes "error 9 tape has " ++ (decimal left ++ codes " more\n"))
refusal_line (status.Rejected bound) = Some (codes "error 10 rejected 256 times below " ++ (decimal bound ++ codes "\n"))
refusal_line (status.LogDiffers line) = Some (codes "error 11 log differs at line " ++ (decimal line ++ codes "\n"))
refusal_line (status.NoStratum number strata) =
    Some (codes "error 16 stratum " ++ (decimal number ++ (codes " of " ++ (decimal strata ++ codes "\n"))))
refusal_line status.NoJoint =
    Some (codes "error 17 joint probabilities need systematic selection in frame order\n")
refusal_line (status.JointLarge rows) =
    Some (codes "error 18 " ++ (decimal rows ++ codes " rows, at most 2000\n"))
refusal_line other = None

-- refusals have a line, and other ends none
abbrev pub line_by : Class → Status → Option (List ℕ)
line_by IsUsage status = Some usage_line
line_by IsRefusal status = refusal_line status
line_by other status = None

abbrev pub fault_line : Status → Option (List ℕ)
fault_line status = line_by (class_of status) status
