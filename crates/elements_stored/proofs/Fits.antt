-- The mark of each category that is stored fits its list.
use Rattle.std.proofs.Common.{ℕ, ◌≡◌, true, List, refl, sym}
use mathlib.Core.Path.{subst}
use borrow.Author.Tests.{eqb-true}
use lib.Dec.{eqb}
use Rattle.rules.specs.Octets.{member}
use Rattle.rules.specs.Elements.{category_of, offerable}
use Rattle.rules.proofs.Tests.{Told?, passed, failed, told, clash}
use Rattle.elements.specs.Marks.{mark_of}
use Rattle.elements.specs.declared.marks.Marks.{Marks}
use Rattle.elements_stored.specs.Stores.{PickFits, MarksFit}

pub fits_at : (l : List ℕ) (m : Marks) → MarksFit l m → (c : ℕ) → member c offerable ≡ true
    → PickFits l (mark_of (category_of c) m)
unfolding member offerable category_of mark_of
fits_at l m fits c h = go (told (eqb c 1)) (told (eqb c 2)) (told (eqb c 4)) (told (eqb c 7)) (told (eqb c 8))
  where
    at : (n : ℕ) → eqb c n ≡ true → PickFits l (mark_of (category_of n) m) → PickFits l (mark_of (category_of c) m)
    at n e fit = subst (λ (k : ℕ). PickFits l (mark_of (category_of k) m)) (sym (eqb-true c n e)) fit

    go : Told? (eqb c 1) → Told? (eqb c 2) → Told? (eqb c 4) → Told? (eqb c 7) → Told? (eqb c 8)
        → PickFits l (mark_of (category_of c) m)
    go (passed e) _ _ _ _ = at 1 e fits.transport
    go (failed _) (passed e) _ _ _ = at 2 e fits.reporting
    go (failed _) (failed _) (passed e) _ _ = at 4 e fits.protection
    go (failed _) (failed _) (failed _) (passed e) _ = at 7 e fits.codec
    go (failed _) (failed _) (failed _) (failed _) (passed e) = at 8 e fits.delaying
    go (failed a) (failed b) (failed d) (failed e) (failed f) = clash refl (sym (rw (a, b, d, e, f) at h))
