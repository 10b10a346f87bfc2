-- A list judged by what may follow: a right list of an entry, and a configuration that could be stored, have their elements in
-- one order, so a walk needs only the category that it passed last. That a right list is such a list goes by induction on the
-- items: a list that passes an element out of this order lacks 1 or 7 at its end.
use Prim.Native.Nat.{ℕ, zero, suc, ◌≤◌}
use native.Mathlib.Omega.{arith}
use mathlib.Core.Path.{◌≡◌, refl, sym, subst, ◌∙◌}
use mathlib.Core.List.{List, [], ◌∷◌}
use mathlib.Core.Bool.{Bool, true, false, not, ◌&&◌, ◌||◌}
use lib.ListN.{length, take, drop, get_or}
use lib.Seq.{length-take-le}
use lib.Dec.{leb, ltb, eqb}
use borrow.Author.Tests.{leb-true, leb-false, ltb-true, eqb-true, eqb-false, ne_eqb}
use Rattle.rules.specs.Octets.{member, some_of, each_of}
use Rattle.std.specs.Prelude.{if◌then◌else◌}
use Rattle.rules.specs.Elements.{Item, whole, short, items, category_of, length_code, offerable, may_follow, start_right}
use Rattle.rules.specs.Elements.{offer_code, judge, blamed, item_category, missing, lacking, no_fault, fault_or, fault_past}
use Rattle.rules.specs.Elements.{fault_in, value_within, offers_in, offered}
use Rattle.rules.specs.Book.{list_right}
use Rattle.rules.specs.declared.Rule.TheVariants.{Offer}
use Rattle.rules.specs.declared.Fault.{Fault}
use Rattle.rules.proofs.Tests.{Told?, passed, failed, told, clash, and_l, and_r, and-false, not_passed}
use Rattle.rules.proofs.Lists.{items_none, items_lone, items_short, items_whole, is_whole}
use Rattle.elements_reader.specs.Orders.{followers, in_order, offer_test, TransportFirst}

-- ---- The first of what is in order

module _ (again : Bool) (test : ℕ → List ℕ → Bool) where
  -- of what is in order, the first element may follow and passes, and the rest is in order behind it
  pub first_in_order : (last c : ℕ) (v : List ℕ) (is : List Item) → in_order again test last (whole c v ∷ is) ≡ true
      → (member c (followers again last) ≡ true) × (test c v ≡ true) × (in_order again test c is ≡ true)
  unfolding in_order
  first_in_order last c v is e =
      let here = member c (followers again last) in
      let both = and_l (here && test c v) (in_order again test c is) e in
      (and_l here (test c v) both, and_r here (test c v) both, and_r (here && test c v) (in_order again test c is) e)

  pub in_order_whole : (is : List Item) (last : ℕ) → in_order again test last is ≡ true → each_of is_whole is ≡ true
  unfolding in_order each_of is_whole
  in_order_whole [] last e = refl
  in_order_whole (short c ∷ is) last e = clash refl (sym e)
  in_order_whole (whole c v ∷ is) last e = in_order_whole is c (first_in_order last c v is e).2

-- ---- A step of the order

one_of : (c d : ℕ) (ds : List ℕ) (P : ℕ → Type 0) → P d → (member c ds ≡ true → P c) → member c (d ∷ ds) ≡ true → P c
unfolding member
one_of c d ds P here there m = go (told (eqb c d))
  where
    go : Told? (eqb c d) → P c
    go (passed t) = subst P (sym (eqb-true c d t)) here
    go (failed t) = there (rw t at m)

none_of : (c : ℕ) {P : Type 0} → member c [] ≡ true → P
unfolding member
none_of c m = clash m refl

-- what holds of each step there is holds of every step
pub steps : (again : Bool) (P : ℕ → ℕ → Type 0) → P 0 1 → P 1 2 → P 1 4 → P 1 7 → P 2 4 → P 2 7 → (again ≡ true → P 4 4) → P 4 7
    → P 7 8 → (last c : ℕ) → member c (followers again last) ≡ true → P last c
unfolding followers
steps again P p₀₁ p₁₂ p₁₄ p₁₇ p₂₄ p₂₇ p₄₄ p₄₇ p₇₈ zero c m = one_of c 1 [] (P 0) p₀₁ (none_of c) m
steps again P p₀₁ p₁₂ p₁₄ p₁₇ p₂₄ p₂₇ p₄₄ p₄₇ p₇₈ (suc zero) c m =
    one_of c 2 (4 ∷ 7 ∷ []) (P 1) p₁₂ (one_of c 4 (7 ∷ []) (P 1) p₁₄ (one_of c 7 [] (P 1) p₁₇ (none_of c))) m
steps again P p₀₁ p₁₂ p₁₄ p₁₇ p₂₄ p₂₇ p₄₄ p₄₇ p₇₈ (suc (suc zero)) c m =
    one_of c 4 (7 ∷ []) (P 2) p₂₄ (one_of c 7 [] (P 2) p₂₇ (none_of c)) m
steps again P p₀₁ p₁₂ p₁₄ p₁₇ p₂₄ p₂₇ p₄₄ p₄₇ p₇₈ (suc (suc (suc zero))) c m = none_of c m
steps true P p₀₁ p₁₂ p₁₄ p₁₇ p₂₄ p₂₇ p₄₄ p₄₇ p₇₈ (suc (suc (suc (suc zero)))) c m =
    one_of c 4 (7 ∷ []) (P 4) (p₄₄ refl) (one_of c 7 [] (P 4) p₄₇ (none_of c)) m
steps false P p₀₁ p₁₂ p₁₄ p₁₇ p₂₄ p₂₇ p₄₄ p₄₇ p₇₈ (suc (suc (suc (suc zero)))) c m = one_of c 7 [] (P 4) p₄₇ (none_of c) m
steps again P p₀₁ p₁₂ p₁₄ p₁₇ p₂₄ p₂₇ p₄₄ p₄₇ p₇₈ (suc (suc (suc (suc (suc zero))))) c m = none_of c m
steps again P p₀₁ p₁₂ p₁₄ p₁₇ p₂₄ p₂₇ p₄₄ p₄₇ p₇₈ (suc (suc (suc (suc (suc (suc zero)))))) c m = none_of c m
steps again P p₀₁ p₁₂ p₁₄ p₁₇ p₂₄ p₂₇ p₄₄ p₄₇ p₇₈ (suc (suc (suc (suc (suc (suc (suc zero))))))) c m =
    one_of c 8 [] (P 7) p₇₈ (none_of c) m
steps again P p₀₁ p₁₂ p₁₄ p₁₇ p₂₄ p₂₇ p₄₄ p₄₇ p₇₈ (suc (suc (suc (suc (suc (suc (suc (suc last)))))))) c m = none_of c m

-- ---- A right list of an entry

by_offerable : (P : ℕ → Type 0) → P 1 → P 2 → P 4 → P 7 → P 8 → (c : ℕ) → member c offerable ≡ true → P c
unfolding offerable
by_offerable P p₁ p₂ p₄ p₇ p₈ c m =
    one_of c 1 (2 ∷ 4 ∷ 7 ∷ 8 ∷ []) P p₁
    (one_of c 2 (4 ∷ 7 ∷ 8 ∷ []) P p₂
    (one_of c 4 (7 ∷ 8 ∷ []) P p₄ (one_of c 7 (8 ∷ []) P p₇ (one_of c 8 [] P p₈ (none_of c)))))
    m

-- Of two categories that ascend, the second may follow the first, or it is 8 and 7 was left out.
follows_or_skips : ℕ → ℕ → Bool
follows_or_skips last c =
    not (may_follow last c) || member c (followers true last) || (not (leb 7 last) && leb 7 c && not (eqb 7 c))

follows_or_skips_lem : (last : ℕ) → member last offerable ≡ true → (c : ℕ) → member c offerable ≡ true
    → follows_or_skips last c ≡ true
unfolding follows_or_skips followers may_follow member
follows_or_skips_lem =
    by_offerable (λ last. (c : ℕ) → member c offerable ≡ true → follows_or_skips last c ≡ true)
    (by_offerable (λ c. follows_or_skips 1 c ≡ true) refl refl refl refl refl)
    (by_offerable (λ c. follows_or_skips 2 c ≡ true) refl refl refl refl refl)
    (by_offerable (λ c. follows_or_skips 4 c ≡ true) refl refl refl refl refl)
    (by_offerable (λ c. follows_or_skips 7 c ≡ true) refl refl refl refl refl)
    (by_offerable (λ c. follows_or_skips 8 c ≡ true) refl refl refl refl refl)

skips : (last c : ℕ) → member last offerable ≡ true → may_follow last c && member c offerable ≡ true
    → member c (followers true last) ≡ false → (leb 7 last ≡ false) × (leb 7 c ≡ true) × (eqb 7 c ≡ false)
unfolding follows_or_skips
skips last c l t m =
    let on = follows_or_skips_lem last l c (and_r (may_follow last c) (member c offerable) t) in
    let out : not (leb 7 last) && leb 7 c && not (eqb 7 c) ≡ true =
    rw (and_l (may_follow last c) (member c offerable) t, m) at on in
    let high = and_l (not (leb 7 last) && leb 7 c) (not (eqb 7 c)) out in (
      not_passed (leb 7 last) (and_l (not (leb 7 last)) (leb 7 c) high),
      and_r (not (leb 7 last)) (leb 7 c) high,
      not_passed (eqb 7 c) (and_r (not (leb 7 last) && leb 7 c) (not (eqb 7 c)) out),
    )

-- a category above a lower one that is not 4
may_follow_higher : (k last c : ℕ) → (k ≡ 4 → ⊥) → k ≤ last → may_follow last c ≡ true → (k ≤ c) × (k ≡ c → ⊥)
unfolding may_follow
may_follow_higher k last c f h m = go (told (ltb last c))
  where
    go : Told? (ltb last c) → (k ≤ c) × (k ≡ c → ⊥)
    go (passed t) = let p = ltb-true last c t in (omega arith, λ e. omega arith)
    go (failed t) =
        let both : eqb last 4 && eqb c 4 ≡ true = rw t at m in
        let four = eqb-true last 4 (and_l (eqb last 4) (eqb c 4) both) in
        let same = eqb-true c 4 (and_r (eqb last 4) (eqb c 4) both) in
        (omega arith, λ e. f (e ∙ same))

module _ (media : ℕ) where
  -- no fault in what is left, behind elements of some categories, the nearest first
  right_past : List ℕ → List Item → Bool
  right_past seen is = eqb (fault_past (Offer media) [] seen is).code 0

  past_none : (seen : List ℕ) → right_past seen [] ≡ member 1 seen && member 7 seen
  unfolding right_past fault_past lacking missing no_fault
  past_none seen = go (member 1 seen) (member 7 seen)
    where
      go : (a b : Bool)
          → eqb (if not a then record { category = 1; code = 7 }
          else if not b then record { category = 7; code = 7 }
          else no_fault).code 0 ≡ a && b
      go true true = refl
      go true false = refl
      go false b = refl

  past_short : (seen : List ℕ) (c : ℕ) (is : List Item) → right_past seen (short c ∷ is) ≡ false
  unfolding right_past fault_past judge offer_code blamed fault_or
  past_short seen c is = refl

  past_whole : (seen : List ℕ) (c : ℕ) (v : List ℕ) (is : List Item)
      → right_past seen (whole c v ∷ is)
      ≡ (may_follow (get_or seen 0 0) c && member c offerable) && (offer_test media c v && right_past (c ∷ seen) is)
  unfolding right_past fault_past judge offer_code blamed item_category fault_or offer_test
  past_whole seen c v is =
      go (may_follow (get_or seen 0 0) c && member c offerable) (eqb (length_code (category_of c) (length v)) 0)
      (start_right media c v)
      (fault_past (Offer media) [] (c ∷ seen) is)
    where
      go : (a l s : Bool) (later : Fault)
          → eqb (fault_or (record { category = c; code = if (a && l) && s then 0 else 7 }) later).code 0
          ≡ a && ((l && s) && eqb later.code 0)
      go true true true later = refl
      go true true false later = refl
      go true false s later = refl
      go false l s later = refl

  -- A category that must be there and was passed over is missing at the end.
  lost : (k : ℕ) → (k ≡ 4 → ⊥) → ((seen : List ℕ) → member k seen ≡ false → member 1 seen && member 7 seen ≡ false)
      → (is : List Item) (seen : List ℕ) → member k seen ≡ false → k ≤ get_or seen 0 0 → right_past seen is ≡ false
  unfolding member
  lost k f due [] seen m h = past_none seen ∙ due seen m
  lost k f due (short c ∷ is) seen m h = past_short seen c is
  lost k f due (whole c v ∷ is) seen m h =
      past_whole seen c v is ∙ go (told (may_follow (get_or seen 0 0) c)) (lost k f due is (c ∷ seen))
    where
      go : Told? (may_follow (get_or seen 0 0) c) → (member k (c ∷ seen) ≡ false → k ≤ c → right_past (c ∷ seen) is ≡ false)
          → (may_follow (get_or seen 0 0) c && member c offerable) && (offer_test media c v && right_past (c ∷ seen) is) ≡ false
      go (failed t) behind = rw t
      go (passed t) behind =
          let higher = may_follow_higher k (get_or seen 0 0) c f h t in
          rw (behind (rw (ne_eqb k c higher.1) m) higher.0, and-false, and-false)

  -- what was seen where the elements were in order so far, the last of the category `last`
  record Past (last : ℕ) (seen : List ℕ) : Type 0 where
    before : get_or seen 0 0 ≡ last
    kind : member last offerable ≡ true
    one : member 1 seen ≡ true
    seven : member 7 seen ≡ leb 7 last

  past_on : (last c : ℕ) (seen : List ℕ) → Past last seen → member c (followers true last) ≡ true
      → (may_follow last c && member c offerable ≡ true) × Past c (c ∷ seen)
  unfolding member may_follow offerable
  past_on last c seen p m =
      let facts = steps true Facts (refl, refl) (refl, refl) (refl, refl) (refl, refl) (refl, refl) (refl, refl)
      (λ e. (refl, refl)) (refl, refl) (refl, refl) last c m in (
        facts.0,
        record {
          before = refl;
          kind = and_r (may_follow last c) (member c offerable) facts.0;
          one = rw p.one (or_true (eqb 1 c));
          seven = rw p.seven facts.1;
        },
      )
    where
      Facts : ℕ → ℕ → Type 0
      Facts last c = (may_follow last c && member c offerable ≡ true) × (eqb 7 c || leb 7 last ≡ leb 7 c)

      or_true : (a : Bool) → a || true ≡ true
      or_true true = refl
      or_true false = refl

  past_in_order : (is : List Item) (last : ℕ) (seen : List ℕ) → Past last seen
      → right_past seen is ≡ in_order true (offer_test media) last is
  unfolding in_order member
  past_in_order [] last seen p = past_none seen ∙ rw (p.one, p.seven)
  past_in_order (short c ∷ is) last seen p = past_short seen c is
  past_in_order (whole c v ∷ is) last seen p =
      past_whole seen c v is
      ∙ rw p.before (go (told (member c (followers true last))) (past_in_order is c (c ∷ seen)))
    where
      go : Told? (member c (followers true last))
          → (Past c (c ∷ seen) → right_past (c ∷ seen) is ≡ in_order true (offer_test media) c is)
          → (may_follow last c && member c offerable) && (offer_test media c v && right_past (c ∷ seen) is)
          ≡ (member c (followers true last) && offer_test media c v) && in_order true (offer_test media) c is
      go (passed m) behind = let next = past_on last c seen p m in rw (m, next.0, behind next.1)
      go (failed m) behind = rw m (skipped (told (may_follow last c && member c offerable)))
        where
          skipped : Told? (may_follow last c && member c offerable)
              → (may_follow last c && member c offerable) && (offer_test media c v && right_past (c ∷ seen) is) ≡ false
          skipped (failed t) = rw t
          skipped (passed t) = rw (left_out, and-false, and-false)
            where
              left_out : right_past (c ∷ seen) is ≡ false
              left_out =
                  let out = skips last c p.kind t m in
                  lost 7 (λ e. omega arith) (λ s n. rw (n, and-false)) is (c ∷ seen) (rw (out.2, p.seven) out.0)
                  (leb-true 7 c out.1)

  -- The check of an entry's list is a walk in order.
  pub list_in_order : (is : List Item) → list_right media is ≡ in_order true (offer_test media) 0 is
  unfolding list_right fault_in in_order followers member right_past offerable may_follow
  list_in_order [] = past_none []
  list_in_order (short c ∷ is) = past_short [] c is
  list_in_order (whole c v ∷ is) = past_whole [] c v is ∙ go (told (eqb c 1))
    where
      go : Told? (eqb c 1)
          → (may_follow 0 c && member c offerable) && (offer_test media c v && right_past (c ∷ []) is)
          ≡ (member c (followers true 0) && offer_test media c v) && in_order true (offer_test media) c is
      go (passed t) =
          subst
          (λ n.
          (may_follow 0 n && member n offerable) && (offer_test media n v && right_past (n ∷ []) is)
          ≡ (member n (followers true 0) && offer_test media n v) && in_order true (offer_test media) n is)
          (sym (eqb-true c 1 t))
          (rw (past_in_order is 1 (1 ∷ []) (record { before = refl; kind = refl; one = refl; seven = refl })))
      go (failed t) = skipped (told (may_follow 0 c)) ∙ (rw t)
        where
          skipped : Told? (may_follow 0 c)
              → (may_follow 0 c && member c offerable) && (offer_test media c v && right_past (c ∷ []) is) ≡ false
          skipped (failed n) = rw n
          skipped (passed n) =
              let higher = may_follow_higher 0 0 c (λ e. omega arith) (omega arith) n in
              rw (
                lost 1 (λ e. omega arith) (λ s m. rw m) is (c ∷ []) (rw (ne_eqb 1 c (λ e. eqb-false c 1 t (sym e))))
                    (omega (arith, higher.1)),
                and-false,
                and-false,
              )

-- ---- A right list begins with the media transport, which has no value

empty : (k : ℕ) → eqb (length_code (category_of 1) k) 0 ≡ true → k ≡ 0
unfolding length_code category_of
empty k e = go (told (eqb k 0))
  where
    go : Told? (eqb k 0) → k ≡ 0
    go (passed t) = eqb-true k 0 t
    go (failed t) = clash (rw t at e) refl

first_empty : (media c n : ℕ) (xs : List ℕ) → n ≤ length xs
    → (member c (followers true 0) && offer_test media c (take n xs))
    && in_order true (offer_test media) c (items (drop n xs)) ≡ true
    → (c ≡ 1) × (n ≡ 0)
unfolding followers member offer_test
first_empty media c n xs h e =
    let both = and_l ((eqb c 1 || false) && offer_test media c (take n xs)) _ e in
    let one = eqb-true c 1 (or_false (eqb c 1) (and_l (eqb c 1 || false) (offer_test media c (take n xs)) both)) in
    let fits = and_l (eqb (length_code (category_of c) (length (take n xs))) 0) (start_right media c (take n xs))
    (and_r (eqb c 1 || false) (offer_test media c (take n xs)) both) in
    (one, sym (length-take-le n xs h) ∙ empty (length (take n xs)) (rw one at fits))
  where
    or_false : (a : Bool) → a || false ≡ true → a ≡ true
    or_false true t = refl
    or_false false t = t

pub transport_first : (media : ℕ) (l : List ℕ) → list_right media (items l) ≡ true → TransportFirst l
unfolding in_order
transport_first media l right = go l (sym (list_in_order media (items l)) ∙ right)
  where
    go : (d : List ℕ) → in_order true (offer_test media) 0 (items d) ≡ true → items d ≡ whole 1 [] ∷ items (drop 2 d)
    go [] e = clash (rw items_none at e) refl
    go (c ∷ []) e = clash (rw items_lone at e) refl
    go (c ∷ n ∷ xs) e = fits (told (leb n (length xs)))
      where
        fits : Told? (leb n (length xs)) → items (c ∷ n ∷ xs) ≡ whole 1 [] ∷ items xs
        fits (failed t) = clash (rw (items_short c n xs (leb-false n (length xs) t)) at e) refl
        fits (passed t) =
            let h = leb-true n (length xs) t in
            let (one, none) = first_empty media c n xs h (rw (items_whole c n xs h) at e) in
            items_whole c n xs h ∙ (rw (one, none))

module _ (caps : List ℕ) (first : TransportFirst caps) where
  pub transport_offered : (v : List ℕ) → offered (items caps) 1 v ≡ true
  unfolding offered some_of offers_in value_within category_of
  transport_offered v = rw first

  pub offered_behind : (c : ℕ) (v : List ℕ) → (c ≡ 1 → ⊥) → offered (items caps) c v ≡ offered (items (drop 2 caps)) c v
  unfolding offered some_of offers_in
  offered_behind c v f = rw (first, ne_eqb c 1 f)
