-- What a walk over a list comes to, and the rules of the two commands.
use Rattle.std.specs.Prelude.{ℕ, ⊤, Ok, Err, List, drop, eqb, if◌then◌else◌}
use Rattle.std.specs.declared.result.Result.{Result}
use Rattle.rules.specs.Elements.{Item, items, fault_past, fault_in}
use Rattle.rules.specs.declared.Rule.{Rule}
use Rattle.rules.specs.declared.Rule.TheVariants as kind
use Rattle.rules.specs.declared.Fault.{Fault}
use Rattle.elements.specs.Marks.{no_marks, marks_from, seen_in}
use Rattle.elements.specs.declared.judges.Command.{Command}
use Rattle.elements.specs.declared.judges.Command.TheVariants.{Setting, Reconfiguring}
use Rattle.elements.specs.declared.marks.Marks.{Marks}

-- the code of an element as its judge tells it: 0 is no failure
abbrev pub judged_as : ℕ → Result ⊤ ℕ
judged_as code = if eqb code 0 then Ok tt else Err code

-- what is lacking likewise
abbrev pub lacked_as : Fault → Result ⊤ Fault
lacked_as f = if eqb f.code 0 then Ok tt else Err f

-- a failure, and where there is none the marks
unfoldable pub walked_as : Fault → Marks → Result Marks Fault
walked_as f m = if eqb f.code 0 then Ok m else Err f

-- the list l from a place on, after elements with some marks
unfoldable pub walk_of : Rule → List Item → List ℕ → ℕ → Marks → Result Marks Fault
walk_of rule caps l at m = walked_as (fault_past rule caps (seen_in m) (items (drop at l))) (marks_from l at m)

-- the list that begins at a place of l
unfoldable pub check_of : Rule → List Item → List ℕ → ℕ → Result Marks Fault
check_of rule caps l at = walked_as (fault_in rule caps (items (drop at l))) (marks_from l at no_marks)

-- the rule of a command
abbrev pub rule_of : Command → Rule
rule_of Setting = kind.Setting
rule_of Reconfiguring = kind.Reconfiguring
