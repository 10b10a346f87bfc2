-- What Set Configuration could have stored is what is in order: stored elements are picked in that order, each fine; and elements
-- in order have no fault, and of each category the element itself is picked. So a configuration is judged in one walk and is not
-- stored again.
use Prim.Native.Nat.{ℕ, suc, ◌/◌, ◌%◌, ◌*◌, ◌≤◌, ◌<◌}
use native.Mathlib.Omega.{arith}
use mathlib.Core.Path.{◌≡◌, refl, sym, ap, ap₂, subst, ◌∙◌}
use mathlib.Core.List.{List, [], ◌∷◌, ◌++◌}
use mathlib.Core.Bool.{true, false, not, ◌&&◌, ◌||◌}
use mathlib.Core.Option.{Option, none, some}
use lib.ListN.{length, get_or}
use lib.Dec.{leb, eqb}
use borrow.Author.Tests.{leb-true, le-leb, eqb-true, eq-eqb, ne_eqb}
use Rattle.rules.specs.Octets.{same_octets, member}
use Rattle.std.specs.Prelude.{if◌then◌else◌}
use Rattle.rules.specs.Elements.{Item, whole, short, items, element, category_of, length_code, offered, is_strange, fixed}
use Rattle.rules.specs.Elements.{offerable, judge, blamed, item_category, missing, lacking, no_fault, fault_or, fault_past}
use Rattle.rules.specs.Elements.{fault_in, has, clear_low, kept, pick, picks, stored, could_store}
use Rattle.rules.specs.Book.{written}
use Rattle.rules.specs.declared.Rule.TheVariants.{Setting}
use Rattle.rules.proofs.Tests.{Told?, passed, failed, told, clash, and_l, and_r, and_both, same_test, octets_same}
use Rattle.rules.proofs.Lists.{items_none, written_items}
use Rattle.rules.proofs.Storable.{value_of, kept_of, items_of, is_there, has_value, items_picks, Fine, fine_code, fine_kept}
use Rattle.rules.proofs.Storable.{Sound, could_sound, could_same}
use Rattle.elements_reader.specs.Orders.{followers, in_order, reserved_zero, setting_test}
use Rattle.elements_reader.proofs.InOrder.{first_in_order, in_order_whole, steps}

-- ---- What is kept of a value has the nibble zero, and a value with the nibble zero is kept whole

kept_zero : (c : ℕ) (v : List ℕ) → reserved_zero c (kept c v) ≡ true
unfolding reserved_zero kept clear_low
kept_zero c v = go (told (eqb c 7)) v
  where
    go : Told? (eqb c 7) → (w : List ℕ)
        → not (eqb c 7) || eqb (get_or (if eqb c 7 then clear_low w else w) 0 0 % 16) 0 ≡ true
    go (passed t) [] = rw t
    go (passed t) (m ∷ w) = rw (t, eq-eqb (m / 16 * 16 % 16) 0 (omega arith))
    go (failed t) w = rw t

zero_kept : (c : ℕ) (v : List ℕ) → reserved_zero c v ≡ true → kept c v ≡ v
unfolding reserved_zero kept clear_low
zero_kept c v e = go (told (eqb c 7)) v e
  where
    go : Told? (eqb c 7) → (w : List ℕ) → not (eqb c 7) || eqb (get_or w 0 0 % 16) 0 ≡ true
        → (if eqb c 7 then clear_low w else w) ≡ w
    go (failed t) w z = rw t
    go (passed t) [] z = rw t
    go (passed t) (m ∷ w) z =
        let zero_there = eqb-true (m % 16) 0 (rw t at z) in
        let same : m / 16 * 16 ≡ m = omega arith in
        rw (t, same)

-- ---- What could be stored is in order

module _ (caps : List Item) where
  abbrev InOrder : ℕ → List Item → Type 0
  InOrder last is = in_order false (setting_test caps) last is ≡ true

  -- what is picked of a category, before what is in order
  one_in_order : (last c : ℕ) (o : Option (List ℕ)) (rest : List Item) → member c (followers false last) ≡ true
      → ((v : List ℕ) → o ≡ some v → Fine Setting caps c v) → (o ≡ none → InOrder last rest) → InOrder c rest
      → InOrder last (items_of c (kept_of c o) ++ rest)
  unfolding items_of kept_of in_order setting_test
  one_in_order last c none rest m fine e e' = e refl
  one_in_order last c (some v) rest m fine e e' =
      let f = fine_kept caps c v (fine v refl) in
      rw (m, f.long, f.given, kept_zero c v) e'

  module _ (is : List Item) (sound : Sound caps is) where
    abbrev Picked : ℕ → List ℕ → Type 0
    Picked last cs = InOrder last (items (picks cs is))

    picked : (last c : ℕ) (cs : List ℕ) → member c (followers false last) ≡ true → (value_of c is ≡ none → Picked last cs)
        → Picked c cs → Picked last (c ∷ cs)
    picked last c cs m e e' =
        rw (items_picks c cs is) (one_in_order last c (value_of c is) (items (picks cs is)) m (sound.fine c) e e')

    never : {A : Type 0} (c : ℕ) → has c is ≡ true → value_of c is ≡ none → A
    unfolding is_there
    never c there e = clash there (has_value c is ∙ ap is_there e)

    at_end : (last : ℕ) → leb 7 last ≡ true → Picked last []
    unfolding picks in_order
    at_end last h = rw items_none h

    picked_codec : (last : ℕ) → member 7 (followers false last) ≡ true → Picked last (7 ∷ 8 ∷ [])
    unfolding followers member
    picked_codec last m =
        picked last 7 (8 ∷ []) m (never 7 sound.seven) (picked 7 8 [] refl (λ e. at_end 7 refl) (at_end 8 refl))

    picked_protection : (last : ℕ) → member 4 (followers false last) ≡ true → member 7 (followers false last) ≡ true
        → Picked last (4 ∷ 7 ∷ 8 ∷ [])
    unfolding followers member
    picked_protection last m n = picked last 4 (7 ∷ 8 ∷ []) m (λ e. picked_codec last n) (picked_codec 4 refl)

    picked_all : InOrder 0 (items (stored is))
    unfolding stored offerable followers member
    picked_all =
        picked 0 1 (2 ∷ 4 ∷ 7 ∷ 8 ∷ []) refl (never 1 sound.one)
        (picked 1 2 (4 ∷ 7 ∷ 8 ∷ []) refl (λ e. picked_protection 1 refl refl) (picked_protection 2 refl refl))

  stored_in_order : (l : List ℕ) → could_store caps l ≡ true → InOrder 0 (items l)
  stored_in_order l e =
      subst (λ (d : List ℕ). InOrder 0 (items d)) (could_same caps l e) (picked_all (items l) (could_sound caps l e))

  -- ---- What is in order has no fault

  -- a step ascends, and passes 1 and 7 where it goes beyond them
  abbrev Step : ℕ → ℕ → Type 0
  Step last c =
      (leb (suc last) c ≡ true) × (is_strange (category_of c) ≡ false) × (eqb 1 c || leb 1 last ≡ leb 1 c)
      × (eqb 7 c || leb 7 last ≡ leb 7 c)

  step_of : (last c : ℕ) → member c (followers false last) ≡ true → Step last c
  unfolding is_strange category_of
  step_of =
      steps false Step (refl, refl, refl, refl) (refl, refl, refl, refl) (refl, refl, refl, refl) (refl, refl, refl, refl)
      (refl, refl, refl, refl) (refl, refl, refl, refl) (λ e. clash refl (sym e)) (refl, refl, refl, refl)
      (refl, refl, refl, refl)

  -- what was seen where the elements were in order so far
  record Seen (last : ℕ) (seen : List ℕ) : Type 0 where
    new : (k : ℕ) → last < k → member k seen ≡ false
    one : member 1 seen ≡ leb 1 last
    seven : member 7 seen ≡ leb 7 last

  seen_on : (last c : ℕ) (seen : List ℕ) → Seen last seen → Step last c → Seen c (c ∷ seen)
  unfolding member
  seen_on last c seen s (up, known, one, seven) =
      let above = leb-true (suc last) c up in
      record {
        new = λ k h. rw (ne_eqb k c (λ e. omega arith)) (s.new k (omega arith));
        one = rw s.one one;
        seven = rw s.seven seven;
      }

  in_order_clean : (is : List Item) (last : ℕ) (seen : List ℕ) → Seen last seen → InOrder last is
      → (fault_past Setting caps seen is).code ≡ 0
  unfolding in_order fault_past lacking missing no_fault judge blamed item_category fault_or setting_test fixed
  in_order_clean [] last seen s e = rw (s.one, s.seven, e, le-leb 1 last (omega (arith, leb-true 7 last e)))
  in_order_clean (short c ∷ is) last seen s e = clash refl (sym e)
  in_order_clean (whole c v ∷ is) last seen s e =
      let (m, t, rest) = first_in_order false (setting_test caps) last c v is e in
      let step = step_of last c m in
      let whole_right = eqb (length_code (category_of c) (length v)) 0 && reserved_zero c v in
      let fine : Fine Setting caps c v =
      record {
        known = step.1;
        free = refl;
        long = eqb-true _ 0 (and_l (eqb (length_code (category_of c) (length v)) 0) (reserved_zero c v)
            (and_l whole_right (offered caps c v) t));
        given = and_r whole_right (offered caps c v) t;
      } in
      rw (fine_code Setting caps seen c v fine (s.new c (leb-true (suc last) c step.0)))
      (in_order_clean is c (c ∷ seen) (seen_on last c seen s step) rest)

  -- ---- What is in order is stored as it is

  -- nothing of a category that was passed is behind
  none_behind : (is : List Item) (last d : ℕ) → InOrder last is → d ≤ last → pick d is ≡ []
  unfolding in_order pick
  none_behind [] last d e h = refl
  none_behind (short c ∷ is) last d e h = clash refl (sym e)
  none_behind (whole c v ∷ is) last d e h =
      let (m, t, rest) = first_in_order false (setting_test caps) last c v is e in
      let above = leb-true (suc last) c (step_of last c m).0 in
      rw (ne_eqb d c (λ p. omega arith)) (none_behind is c d rest (omega arith))

  -- the categories that a configuration can have behind one
  unfoldable above : ℕ → List ℕ
  above last =
      get_or
      ((1 ∷ 2 ∷ 4 ∷ 7 ∷ 8 ∷ []) ∷ (2 ∷ 4 ∷ 7 ∷ 8 ∷ []) ∷ (4 ∷ 7 ∷ 8 ∷ []) ∷ [] ∷ (7 ∷ 8 ∷ []) ∷ [] ∷ [] ∷ (8 ∷ []) ∷ [])
      last []

  picks_none : (cs : List ℕ) → picks cs [] ≡ []
  unfolding picks pick
  picks_none [] = refl
  picks_none (c ∷ cs) = picks_none cs

  picks_first : (v : List ℕ) (is : List Item) (last c : ℕ) → member c (followers false last) ≡ true
      → ((d : ℕ) → d ≤ c → pick d is ≡ []) → picks (above last) (whole c v ∷ is) ≡ element c (kept c v) ++ picks (above c) is
  unfolding picks pick above
  picks_first v is =
      steps false
      (λ last c. ((d : ℕ) → d ≤ c → pick d is ≡ [])
      → picks (above last) (whole c v ∷ is) ≡ element c (kept c v) ++ picks (above c) is)
      (λ gone. refl) (λ gone. refl) (λ gone. rw (gone 2 (omega arith)))
      (λ gone. rw (gone 2 (omega arith), gone 4 (omega arith))) (λ gone. refl)
      (λ gone. rw (gone 4 (omega arith))) (λ e. clash refl (sym e)) (λ gone. refl) (λ gone. refl)

  in_order_picks : (is : List Item) (last : ℕ) → InOrder last is → picks (above last) is ≡ written is
  unfolding in_order written setting_test
  in_order_picks [] last e = picks_none (above last)
  in_order_picks (short c ∷ is) last e = clash refl (sym e)
  in_order_picks (whole c v ∷ is) last e =
      let (m, t, rest) = first_in_order false (setting_test caps) last c v is e in
      let long = eqb (length_code (category_of c) (length v)) 0 in
      let zero_there = and_r long (reserved_zero c v) (and_l (long && reserved_zero c v) (offered caps c v) t) in
      picks_first v is last c m (λ d h. none_behind is c d rest h)
      ∙ ap₂ (λ (w r : List ℕ). element c w ++ r) (zero_kept c v zero_there) (in_order_picks is c rest)

  in_order_stored : (l : List ℕ) → InOrder 0 (items l) → could_store caps l ≡ true
  unfolding could_store fault_in stored offerable above member
  in_order_stored l e =
      let same : stored (items l) ≡ l =
      in_order_picks (items l) 0 e ∙ written_items l (in_order_whole false (setting_test caps) (items l) 0 e) in
      and_both (eqb (fault_in Setting caps (items l)).code 0) (same_octets (stored (items l)) l)
      (eq-eqb _ 0
      (in_order_clean (items l) 0 [] (record { new = λ k h. refl; one = refl; seven = refl }) e))
      (subst (λ (d : List ℕ). same_octets d l ≡ true) (sym same) (octets_same l))

  -- The test of a stored configuration is a walk in order.
  pub could_in_order : (l : List ℕ) → could_store caps l ≡ in_order false (setting_test caps) 0 (items l)
  could_in_order l =
      same_test (could_store caps l) (in_order false (setting_test caps) 0 (items l)) (stored_in_order l) (in_order_stored l)
