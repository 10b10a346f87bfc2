-- `offers` meets its contract: the items from a place on are told by what stands there, so the first decides or the rest does.
-- The measure is what is left of the list.
use Prim.Native.Nat.{ℕ, ◌+◌}
use mathlib.Core.Path.{◌≡◌, refl, sym, ap, ◌∙◌}
use mathlib.Core.List.{List}
use mathlib.Core.Bool.{true, false}
use native.Mathlib.Omega.{arith}
use lib.ListN.{drop}
use borrow.Author.Tests.{eq-eqb, ne_eqb}
use Rattle.rules.specs.Octets.{some_of}
use Rattle.rules.specs.Elements.{items, category_of, value_within, offers_in, offered}
use Rattle.rules.proofs.Tests.{clash}
use Rattle.elements_reader.specs.Standing.{element_at, items_by}
use Rattle.elements_reader.specs.declared.Element.{Element}
use Rattle.elements_reader.specs.declared.Element.TheVariants.{End, Short, Whole}
use Rattle.octets.specs.Patch.{part}
use Rattle.elements_reader.proofs.Stands.{stands_whole, items_by_lem}
use Rattle.elements_offers.proofs.+offers.Goals as goal
use Rattle.elements_offers.proofs.+offers.Goals.{then-c-category, else-c-category}

module _ (l : List ℕ) (at c : ℕ) (v : List ℕ) where
  offered_by : {h : Element} → h ≡ element_at l at → offered (items_by h l) c v ≡ offered (items (drop at l)) c v
  offered_by e = ap (λ h. offered (items_by h l) c v) e ∙ ap (λ is. offered is c v) (sym (items_by_lem l at))

  offered_none : (h : Element) → h ≡ element_at l at → ((d n first : ℕ) → h ≡ Whole d n first → ⊥)
      → false ≡ offered (items (drop at l)) c v
  unfolding offered some_of items_by offers_in
  offered_none End e k = offered_by e
  offered_none (Short d) e k = offered_by e
  offered_none (Whole d n first) e k = absurd (k d n first refl)

  module _ (d n first : ℕ) (e : Whole d n first ≡ element_at l at) where
    offered_here : d ≡ c → true ≡ value_within (category_of c) v (part first n l) → true ≡ offered (items (drop at l)) c v
    unfolding offered some_of items_by offers_in part
    offered_here p q = (rw (eq-eqb c d (sym p), ← q)) ∙ offered_by e

    offered_without : d ≡ c → value_within (category_of c) v (part first n l) ≡ false
        → offered (items (drop (first + n) l)) c v ≡ offered (items (drop at l)) c v
    unfolding offered some_of items_by offers_in part
    offered_without p q = (rw (eq-eqb c d (sym p), q)) ∙ offered_by e

    offered_other : (d ≡ c → ⊥) → offered (items (drop (first + n) l)) c v ≡ offered (items (drop at l)) c v
    unfolding offered some_of items_by offers_in
    offered_other f = (rw (ne_eqb c d (λ p. f (sym p)))) ∙ offered_by e

-- no whole element
pub returns-in_default : goal.returns-in_default
returns-in_default t c =
    offered_none c.args.caps.now c.args.at c.args.category c.args.value.now _ c.element_at.ensures c.in_default.not-Whole

-- what `part` requires
pub part-requires : goal.part-requires
part-requires t c =
    (stands_whole c.args.caps.now c.args.at _ _ _ (sym c.in-Whole.is ∙ c.element_at.ensures)).3

-- the next place fits
pub overflow_add-first : goal.overflow_add-first
overflow_add-first t c =
    omega (
      arith,
      (stands_whole c.args.caps.now c.args.at _ _ _
          (sym c.in-Whole.is ∙ c.element_at.ensures)).3,
    )

-- the measure falls
pub offers-requires : goal.offers-requires
offers-requires t c =
    let there = stands_whole c.args.caps.now c.args.at _ _ _
    (sym c.in-Whole.is ∙ c.element_at.ensures) in
    (omega arith, tt)

-- within the first
pub returns-then-value_within : goal.returns-then-value_within
returns-then-value_within t c =
    elim c.if-c-category.branch [
      | then-c-category w ↦
          c.if-value_within.true
          ∙ offered_here c.args.caps.now c.args.at c.args.category c.args.value.now _ _ _
          (sym c.in-Whole.is ∙ c.element_at.ensures) w.if-c-category.true
          (sym c.if-value_within.true ∙ w.value-is ∙ w.value_within.ensures
          ∙ ap (value_within (category_of c.args.category) c.args.value.now) w.part.ensures)
      | else-c-category w ↦ clash c.if-value_within.true (w.value-is ∙ ne_eqb _ _ w.if-c-category.false)
    ]

-- the rest decides
pub returns-else-value_within : goal.returns-else-value_within
returns-else-value_within t c =
    let there = sym c.in-Whole.is ∙ c.element_at.ensures in
    c.offers.ensures ∙ elim c.if-c-category.branch [
      | then-c-category w ↦
          offered_without c.args.caps.now c.args.at c.args.category c.args.value.now _ _ _ there w.if-c-category.true
          (sym (w.value-is ∙ w.value_within.ensures
          ∙ ap (value_within (category_of c.args.category) c.args.value.now) w.part.ensures)
          ∙ c.if-value_within.false)
      | else-c-category w ↦
          offered_other c.args.caps.now c.args.at c.args.category c.args.value.now _ _ _ there w.if-c-category.false
    ]
