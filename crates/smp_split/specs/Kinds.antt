-- The words of the kinds of steps.
use Rattle.std.specs.Prelude.{ℕ, List, codes}
use Rattle.smp_split.specs.declared.kind.Kind.{Kind}
use Rattle.smp_split.specs.declared.kind.Kind.TheVariants.{Order, Pivot, Lone, System, Support, Offer, Take, Spent}
use Rattle.smp_split.specs.declared.kind.Kind.TheVariants.{Eliminate, Choose, Flight, Drop, Wide}

abbrev pub kind_word : Kind → List ℕ
kind_word Order = codes "order"
kind_word Pivot = codes "pivot"
kind_word Lone = codes "lone"
kind_word System = codes "system"
kind_word Support = codes "support"
kind_word Offer = codes "offer"
kind_word Take = codes "take"
kind_word Spent = codes "spent"
kind_word Eliminate = codes "eliminate"
kind_word Choose = codes "choose"
kind_word Flight = codes "flight"
kind_word Drop = codes "drop"
kind_word Wide = codes "wide"
