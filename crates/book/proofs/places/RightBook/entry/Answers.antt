-- `entry` meets its contract: the list of a right entry lies inside the book.
use Rattle.std.proofs.Common.{ℕ, List, length, ap, ◌∙◌, arith}
use Rattle.octets.proofs.Patches.{part_length}
use Rattle.book.proofs.places.RightBook.entry.Goals as goal

pub returns-clause-size : goal.returns-clause-size
returns-clause-size c =
    ap (λ (l : List ℕ). length l) c.part.ensures ∙ part_length _ _ _ c.requires.inside

pub returns-clause-inside : goal.returns-clause-inside
returns-clause-inside c =
    let size = ap (λ (l : List ℕ). length l) c.part.ensures ∙ part_length _ _ _ c.requires.inside in
    omega (arith, c.requires.inside, size)
