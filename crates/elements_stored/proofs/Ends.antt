-- Where the codec ends, by what stands at a place: there or behind it.
use Prim.Native.Nat.{ℕ, ◌+◌}
use mathlib.Core.Path.{◌≡◌, refl, sym, ap, ◌∙◌}
use mathlib.Core.List.{List}
use native.Mathlib.Nat.{add-zero}
use native.Mathlib.Omega.{arith}
use lib.ListN.{drop}
use borrow.Author.Tests.{eq-eqb, ne_eqb}
use Rattle.rules.specs.Elements.{items, element}
use Rattle.elements_reader.specs.Orders.{codec_end}
use Rattle.elements_reader.specs.Standing.{element_at, items_by}
use Rattle.elements_reader.specs.declared.Element.{Element}
use Rattle.elements_reader.specs.declared.Element.TheVariants.{End, Short, Whole}
use Rattle.elements_reader.proofs.Stands.{stands_whole, value_length, items_by_lem}

module _ (l : List ℕ) (at : ℕ) where
  end_by : {h : Element} → h ≡ element_at l at → at + codec_end (items_by h l) ≡ at + codec_end (items (drop at l))
  end_by e = ap (λ h. at + codec_end (items_by h l)) e ∙ ap (λ is. at + codec_end is) (sym (items_by_lem l at))

  pub end_none : (h : Element) → h ≡ element_at l at → ((c n first : ℕ) → h ≡ Whole c n first → ⊥)
      → at ≡ at + codec_end (items (drop at l))
  unfolding codec_end items_by
  end_none End e k = sym (add-zero at) ∙ end_by e
  end_none (Short c) e k = sym (add-zero at) ∙ end_by e
  end_none (Whole c n first) e k = absurd (k c n first refl)

  module _ (c n first : ℕ) (e : Whole c n first ≡ element_at l at) where
    pub end_here : c ≡ 7 → first + n ≡ at + codec_end (items (drop at l))
    unfolding codec_end items_by element
    end_here p =
        (rw (eq-eqb c 7 p, value_length l at c n first e) (omega (arith, (stands_whole l at c n first e).2))) ∙ end_by e

    pub end_further : (c ≡ 7 → ⊥) → first + n + codec_end (items (drop (first + n) l)) ≡ at + codec_end (items (drop at l))
    unfolding codec_end items_by element
    end_further f =
        (rw (ne_eqb c 7 f, value_length l at c n first e) (omega (arith, (stands_whole l at c n first e).2))) ∙ end_by e

-- what the walk for the codec goes by, at each turn
pub ruleset turns = (stands_whole, end_none, end_here, end_further)
