-- What a single and a start lead to, by the length of the packet.
use Rattle.std.proofs.Common.{◌≡◌, ℕ, suc, ◌≤◌, List, [], ◌∷◌, ◌&&◌, length, drop, get_or, refl, arith}
use Rattle.std.specs.Prelude.{ltb, leb, if◌then◌else◌}
use Rattle.std.proofs.Math.ListN.{length-drop, length-take}
use Rattle.std.proofs.Math.Option.{Option}
use Rattle.std.proofs.lemmas.Bool.Decides.{nat_tests}
use borrow.Author.Tests.{le-ltb}
use Rattle.rules.specs.Octets.{between}
use Rattle.rules.specs.Packets.{Gathering, a_single, a_start, read_as, message_from, label_in, mtype_in, signal_in, longest}
use Rattle.packets_next.specs.Nexts.{next_by}
use Rattle.packets_next.specs.declared.nexts.Next.TheVariants.{Ended, Single, Begun}

pub single_by_length : (g : Option Gathering) (p : List ℕ)
    → next_by g (read_as a_single (get_or p 0 0) (drop 1 p))
    ≡ (if ltb (length p) 2 then Ended
    else if leb (length (drop 2 p)) 512
    then
    Single
    (record { label = label_in (get_or p 0 0); mtype = mtype_in (get_or p 0 0); signal = signal_in (get_or p 1 0) })
    else Ended)
unfolding next_by read_as message_from longest
single_by_length g [] = refl
single_by_length g (x ∷ []) = refl
single_by_length g (x ∷ y ∷ p) = rw (le-ltb (length (x ∷ y ∷ p)) 2 (omega arith))

pub start_by_length : (g : Option Gathering) (p : List ℕ)
    → next_by g (read_as a_start (get_or p 0 0) (drop 1 p))
    ≡ (if ltb (length p) 3 then Ended
    else if between 2 255 (get_or p 1 0) && leb (length (drop 3 p)) 512 then Begun else Ended)
unfolding next_by read_as message_from longest
start_by_length g [] = refl
start_by_length g (x ∷ []) = refl
start_by_length g (x ∷ n ∷ []) = refl
start_by_length g (x ∷ n ∷ s ∷ p) = rw (le-ltb (length (x ∷ n ∷ s ∷ p)) 3 (omega arith))

pub ruleset by_length = (single_by_length, start_by_length, nat_tests, length-drop, length-take)
