use Rattle.smp_localcube.proofs.state.LocalCourseCourse.go_to_end.Given as goal

-- the ledger is that of the blank
abbrev pub ghosts-fly : goal.ghosts-fly
ghosts-fly g a = record { name = a.blank.name; parts = a.blank.parts }
