-- `number` meets its contract: the number is what the digits that are left make of the value so far.
use Rattle.std.proofs.Common.{◌≤◌, ◌≡◌, drop}
use Rattle.replay_script.specs.Numbers.{number_from, number_of}
use Rattle.replay_script.proofs.numbers.number.Given as goal

abbrev pub invariant-loop-octet : goal.invariant-loop-octet
invariant-loop-octet l =
    (l.value ≤ 65535) × (number_of l.most l.word ≡ number_from l.most l.value (drop l.octet-index l.word))
