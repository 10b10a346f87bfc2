-- Where the elements of a list stand: what a walk carries along, in the place of the categories seen.
use Rattle.std.specs.Prelude.{ℕ, zero, suc, ◌+◌, List, [], ◌∷◌, ◌++◌, Bool, false, length, drop, get_or, leb, eqb, if◌then◌else◌}
use Rattle.rules.specs.Elements.{Category, transport, reporting, recovery, protection, compression, multiplexing}
use Rattle.rules.specs.Elements.{codec, delaying, strange}
use Rattle.elements.specs.declared.marks.Marks.{Marks}

unfoldable pub no_marks : Marks
no_marks =
    record {
      transport = 0;
      reporting = 0;
      recovery = 0;
      protection = 0;
      compression = 0;
      multiplexing = 0;
      codec = 0;
      delaying = 0;
    }

-- where the value of the element of a category begins, 0 where there is none
unfoldable pub mark_of : Category → Marks → ℕ
mark_of transport m = m.transport
mark_of reporting m = m.reporting
mark_of recovery m = m.recovery
mark_of protection m = m.protection
mark_of compression m = m.compression
mark_of multiplexing m = m.multiplexing
mark_of codec m = m.codec
mark_of delaying m = m.delaying
mark_of strange m = 0

-- an element of category c was passed, whose value begins at `first`
unfoldable pub marked : ℕ → ℕ → Marks → Marks
marked c first m =
    record {
      transport = if eqb c 1 then first else m.transport;
      reporting = if eqb c 2 then first else m.reporting;
      recovery = if eqb c 3 then first else m.recovery;
      protection = if eqb c 4 then first else m.protection;
      compression = if eqb c 5 then first else m.compression;
      multiplexing = if eqb c 6 then first else m.multiplexing;
      codec = if eqb c 7 then first else m.codec;
      delaying = if eqb c 8 then first else m.delaying;
    }

unfoldable pub is_whole : List ℕ → Bool
is_whole [] = false
is_whole (n ∷ xs) = leb n (length xs)

-- all whole elements passed, as `items_past` passes them; `at` is the place of the octet at hand
unfoldable pub marks_past : List ℕ → ℕ → ℕ → Marks → Marks
marks_past [] k at m = m
marks_past (x ∷ xs) (suc k) at m = marks_past xs k (suc at) m
marks_past (x ∷ xs) zero at m =
    if is_whole xs then marks_past xs (suc (get_or xs 0 0)) (suc at) (marked x (at + 2) m) else m

unfoldable pub marks_from : List ℕ → ℕ → Marks → Marks
marks_from l at m = marks_past (drop at l) 0 at m

-- the categories passed, ascending
unfoldable pub seen_as : ℕ → ℕ → List ℕ
seen_as c place = if eqb place 0 then [] else c ∷ []

unfoldable pub seen_in : Marks → List ℕ
seen_in m =
    seen_as 1 m.transport ++ (seen_as 2 m.reporting ++ (seen_as 3 m.recovery ++ (seen_as 4 m.protection
    ++ (seen_as 5 m.compression ++ (seen_as 6 m.multiplexing ++ (seen_as 7 m.codec ++ seen_as 8 m.delaying))))))
