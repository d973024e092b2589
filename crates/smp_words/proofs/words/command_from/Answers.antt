use Rattle.std.proofs.Common.{Result, Ok, Err, IfOk, IfSome, Option, ◌≡◌, subst, sym}
use Rattle.smp_words.specs.{declared.command.Command.{Command}, Views.{given_view}, Words.{command_given, IsAsked}}
use Rattle.smp_words.proofs.Asked.{given_asked}
use Rattle.smp_words.proofs.words.command_from.Goals as goal

of_given : {E : Type 0} (result : Result (Option Command) E) (command : Option Command) → IfSome command IsAsked → IfOk result (λ c. c ≡ command) → IfOk result (λ c. IfSome c IsAsked)
of_given (Ok c) command asked is = subst (λ o. IfSome o IsAsked) (sym is) asked
of_given (Err e) command asked is = tt

pub returns-in-Some-clause-asked : goal.returns-in-Some-clause-asked
returns-in-Some-clause-asked c = of_given c.command_given.result (command_given (given_view c.from_matches.result)) (given_asked (given_view c.from_matches.result)) c.command_given.ensures.command
