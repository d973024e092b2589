use Rattle.method_tests.proofs.flight.moves_from_the_start.Given as goal

-- the ledger is that of the blank
abbrev pub ghosts-moves : goal.ghosts-moves
ghosts-moves a = record { name = a.blank.name; parts = a.blank.parts }
