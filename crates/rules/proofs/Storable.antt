-- What is stored could have been stored, since reading it gives of each category the value first asked for, reserved bits
-- cleared, which is checked and stored with no change; and each stored element has room of its own among those that are offered.
use Prim.Native.Nat.{ℕ, zero, suc, ◌+◌, ◌*◌, ◌/◌, ◌≤◌, zero-le, suc-le-suc}
use native.Mathlib.Nat.{mul-div_cancel, zero-lt-suc, suc-ne-zero, le_of_eq}
use native.Mathlib.Omega.{arith}
use mathlib.Core.Path.{◌≡◌, refl, sym, ap, ap₂, ◌∙◌, subst, subst₂, fun_ext}
use mathlib.Core.List.{List, [], ◌∷◌, ◌++◌}
use mathlib.Core.Bool.{Bool, true, false, not, ◌&&◌, ◌||◌}
use mathlib.Core.Option.{Option, none, some}
use lib.ListN.{length, length-append}
use lib.Dec.{eqb, eqb-suc-zero}
use lib.Bits.{bit_and}
use borrow.Author.Tests.{eqb-true, eq-eqb, ne_eqb, not-false}
use Rattle.rules.specs.Octets.{same_octets, member, is_empty, some_of}
use Rattle.std.specs.Prelude.{if◌then◌else◌}
use Rattle.rules.specs.Elements.{Item, whole, short, items, element, category_of, length_code, item_category, is_of, has}
use Rattle.rules.specs.Elements.{bits_within, codec_within, value_within, offers_in, offered, is_strange, fixed, item_code}
use Rattle.rules.specs.Elements.{offerable, no_fault, judge, blamed, missing, lacking, fault_or, fault_past, fault_in, clear_low}
use Rattle.rules.specs.Elements.{kept, pick, picks, stored, restored, could_store}
use Rattle.rules.specs.Book.{written}
use Rattle.rules.specs.Computed.{computed}
use Rattle.rules.specs.declared.Rule.{Rule}
use Rattle.rules.specs.declared.Rule.TheVariants.{Setting, Reconfiguring}
use Rattle.rules.specs.declared.Fault.{Fault}
use Rattle.rules.proofs.Tests.{Told?, passed, failed, told, clash, and_l, and_r, and_both, or_l, or_r, not_passed}
use Rattle.rules.proofs.Tests.{same_octets_lem, octets_same}
use Rattle.rules.proofs.Lists.{items_none, items_element, written_length}

-- ---- The value that is picked

-- the value of the first element of category c
unfoldable pub value_of : ℕ → List Item → Option (List ℕ)
value_of c [] = none
value_of c (short d ∷ is) = value_of c is
value_of c (whole d v ∷ is) = if eqb c d then some v else value_of c is

unfoldable pub is_there : Option (List ℕ) → Bool
is_there none = false
is_there (some v) = true

-- the value as it is stored
unfoldable pub kept_of : ℕ → Option (List ℕ) → Option (List ℕ)
kept_of c none = none
kept_of c (some v) = some (kept c v)

-- the element of category c with this value, if there is one: written, and below as an item
octets_of : ℕ → Option (List ℕ) → List ℕ
octets_of c none = []
octets_of c (some v) = element c v

pub has_value : (c : ℕ) (is : List Item) → has c is ≡ is_there (value_of c is)
unfolding has some_of is_of value_of is_there
has_value c [] = refl
has_value c (short d ∷ is) = has_value c is
has_value c (whole d v ∷ is) = go (eqb c d) (has_value c is)
  where
    go : (b : Bool) → has c is ≡ is_there (value_of c is) → b || has c is ≡ is_there (if b then some v else value_of c is)
    go true e = refl
    go false e = e

pick_value : (c : ℕ) (is : List Item) → pick c is ≡ octets_of c (kept_of c (value_of c is))
unfolding pick value_of octets_of kept_of
pick_value c [] = refl
pick_value c (short d ∷ is) = pick_value c is
pick_value c (whole d v ∷ is) = go (eqb c d) (pick_value c is)
  where
    go : (b : Bool) → pick c is ≡ octets_of c (kept_of c (value_of c is))
        → (if b then element c (kept c v) else pick c is) ≡ octets_of c (kept_of c (if b then some v else value_of c is))
    go true e = refl
    go false e = e

-- ---- Values as they are stored

-- Keeping a value clears the low nibble of a codec's first octet, and is nothing else.
by_kept : (P : ℕ → (List ℕ → List ℕ) → Type 0) → P 7 clear_low → ((c : ℕ) → P c (λ v. v)) → (c : ℕ) → P c (kept c)
unfolding kept
by_kept P codecs others c = go (told (eqb c 7))
  where
    go : Told? (eqb c 7) → P c (kept c)
    go (passed e) = subst (λ (n : ℕ). P n (kept n)) (sym (eqb-true c 7 e)) codecs
    go (failed e) = subst (P c) (sym (fun_ext (λ v. rw e))) (others c)

nibble_cleared : (m : ℕ) → m / 16 * 16 / 16 ≡ m / 16
nibble_cleared m = mul-div_cancel (m / 16) (zero-lt-suc 15)

clear_again : (v : List ℕ) → clear_low (clear_low v) ≡ clear_low v
unfolding clear_low
clear_again [] = refl
clear_again (m ∷ v) = rw nibble_cleared

clear_length : (v : List ℕ) → length (clear_low v) ≡ length v
unfolding clear_low
clear_length [] = refl
clear_length (m ∷ v) = refl

clear_within : (v w : List ℕ) → codec_within (clear_low v) w ≡ codec_within v w
unfolding clear_low codec_within
clear_within [] w = refl
clear_within (m ∷ []) w = refl
clear_within (m ∷ t ∷ v) [] = refl
clear_within (m ∷ t ∷ v) (m' ∷ []) = refl
clear_within (m ∷ t ∷ v) (m' ∷ t' ∷ w) = rw nibble_cleared

clear_offered : (v : List ℕ) (i : Item) → offers_in 7 (clear_low v) i ≡ offers_in 7 v i
unfolding offers_in category_of value_within
clear_offered v (short d) = refl
clear_offered v (whole d w) = rw clear_within

kept_again : (c : ℕ) (v : List ℕ) → kept c (kept c v) ≡ kept c v
kept_again = by_kept (λ c f. (v : List ℕ) → f (f v) ≡ f v) clear_again (λ c v. refl)

pub kept_length : (c : ℕ) (v : List ℕ) → length (kept c v) ≡ length v
kept_length = by_kept (λ c f. (v : List ℕ) → length (f v) ≡ length v) clear_length (λ c v. refl)

kept_offered : (caps : List Item) (c : ℕ) (v : List ℕ) → offered caps c (kept c v) ≡ offered caps c v
unfolding offered
kept_offered caps =
    by_kept (λ c f. (v : List ℕ) → offered caps c (f v) ≡ offered caps c v)
    (λ v. ap (λ (p : Item → Bool). some_of p caps) (fun_ext (clear_offered v))) (λ c v. refl)

-- ---- A stored configuration, read again

unfoldable pub items_of : ℕ → Option (List ℕ) → List Item
items_of c none = []
items_of c (some v) = whole c v ∷ []

-- the first, or else the second
either : Option (List ℕ) → Option (List ℕ) → Option (List ℕ)
either none p = p
either (some v) p = some v

value_append : (c : ℕ) (is js : List Item) → value_of c (is ++ js) ≡ either (value_of c is) (value_of c js)
unfolding value_of either
value_append c [] js = refl
value_append c (short d ∷ is) js = value_append c is js
value_append c (whole d v ∷ is) js = go (eqb c d) (value_append c is js)
  where
    go : (b : Bool) → value_of c (is ++ js) ≡ either (value_of c is) (value_of c js)
        → (if b then some v else value_of c (is ++ js)) ≡ either (if b then some v else value_of c is) (value_of c js)
    go true e = refl
    go false e = e

value_one : (c d : ℕ) (o : Option (List ℕ)) → value_of c (items_of d o) ≡ if eqb c d then o else none
unfolding value_of items_of
value_one c d none = go (eqb c d)
  where
    go : (b : Bool) → ◌≡◌ {A = Option (List ℕ)} none (if b then none else none)
    go true = refl
    go false = refl
value_one c d (some v) = refl

items_octets : (c : ℕ) (o : Option (List ℕ)) (l : List ℕ) → items (octets_of c o ++ l) ≡ items_of c o ++ items l
unfolding octets_of items_of
items_octets c none l = refl
items_octets c (some v) l = items_element c v l

-- the items of what is picked
pub items_picks : (c : ℕ) (cs : List ℕ) (is : List Item)
    → items (picks (c ∷ cs) is) ≡ items_of c (kept_of c (value_of c is)) ++ items (picks cs is)
unfolding picks
items_picks c cs is =
    ap (λ (l : List ℕ). items (l ++ picks cs is)) (pick_value c is) ∙ items_octets c (kept_of c (value_of c is)) (picks cs is)

either_same : (o : Option (List ℕ)) (b : Bool) → either o (if b then o else none) ≡ o
unfolding either
either_same none true = refl
either_same none false = refl
either_same (some v) b = refl

value_again : (c : ℕ) (cs : List ℕ) (is : List Item)
    → value_of c (items (picks cs is)) ≡ if member c cs then kept_of c (value_of c is) else none
unfolding picks member value_of either
value_again c [] is = ap (value_of c) items_none
value_again c (d ∷ ds) is =
    ap (value_of c) (items_picks d ds is) ∙ value_append c (items_of d (kept_of d (value_of d is))) (items (picks ds is))
    ∙ ap₂ either (value_one c d (kept_of d (value_of d is))) (value_again c ds is)
    ∙ go (told (eqb c d))
  where
    go : Told? (eqb c d)
        → either (if eqb c d then kept_of d (value_of d is) else none) (if member c ds then kept_of c (value_of c is) else none)
        ≡ if eqb c d || member c ds then kept_of c (value_of c is) else none
    go (passed e) = rw (← (eqb-true c d e), eq-eqb c c refl) (either_same (kept_of c (value_of c is)) (member c ds))
    go (failed e) = rw e

module _ (c : ℕ) (on : member c offerable ≡ true) (is : List Item) where
  stored_value : value_of c (items (stored is)) ≡ kept_of c (value_of c is)
  unfolding stored
  stored_value = rw on at (value_again c offerable is)

  pub stored_has : has c (items (stored is)) ≡ has c is
  unfolding kept_of is_there
  stored_has = has_value c (items (stored is)) ∙ ap is_there stored_value ∙ kept_there (value_of c is) ∙ sym (has_value c is)
    where
      kept_there : (o : Option (List ℕ)) → is_there (kept_of c o) ≡ is_there o
      kept_there none = refl
      kept_there (some v) = refl

  stored_pick : pick c (items (stored is)) ≡ pick c is
  unfolding kept_of
  stored_pick =
      pick_value c (items (stored is)) ∙ ap (λ (o : Option (List ℕ)). octets_of c (kept_of c o)) stored_value
      ∙ ap (octets_of c) (twice (value_of c is)) ∙ sym (pick_value c is)
    where
      twice : (o : Option (List ℕ)) → kept_of c (kept_of c o) ≡ kept_of c o
      twice none = refl
      twice (some v) = ap some (kept_again c v)

-- what was stored is stored the same again
stored_again : (is : List Item) → stored (items (stored is)) ≡ stored is
unfolding stored picks offerable member
stored_again is =
    rw (stored_pick 1 refl is, stored_pick 2 refl is, stored_pick 4 refl is, stored_pick 7 refl is, stored_pick 8 refl is)

-- ---- The checks

-- An element with no fault of its own: it passes in every list where its category was not seen before.
pub record Fine (rule : Rule) (caps : List Item) (c : ℕ) (v : List ℕ) : Type 0 where
  pub known : is_strange (category_of c) ≡ false
  pub free : fixed rule (category_of c) ≡ false
  pub long : length_code (category_of c) (length v) ≡ 0
  pub given : offered caps c v ≡ true

else_clean : (b : Bool) (n m : ℕ) → (if b then suc n else m) ≡ 0 → (b ≡ false) × (m ≡ 0)
else_clean true n m e = absurd (suc-ne-zero n e)
else_clean false n m e = (refl, e)

code_clean : (n m : ℕ) → (if not (eqb n 0) then n else m) ≡ 0 → (n ≡ 0) × (m ≡ 0)
code_clean zero m e = (refl, e)
code_clean (suc n) m e = absurd (suc-ne-zero n (rw (eqb-suc-zero n) at e))

fine_of : (rule : Rule) (caps : List Item) (seen : List ℕ) (c : ℕ) (v : List ℕ) → item_code rule caps seen (whole c v) ≡ 0
    → Fine rule caps c v
unfolding item_code
fine_of rule caps seen c v e =
    let (known, e₁) = else_clean (is_strange (category_of c)) 0x16 _ e in
    let (free, e₂) = else_clean (fixed rule (category_of c)) 0x19 _ e₁ in
    let (new, e₃) = else_clean (member c seen) 0x17 _ e₂ in
    let (long, e₄) = code_clean (length_code (category_of c) (length v)) _ e₃ in
    let (given, e₅) = else_clean (not (offered caps c v)) 0x28 0 e₄ in
    record { known = known; free = free; long = long; given = not-false (offered caps c v) given }

pub fine_code : (rule : Rule) (caps : List Item) (seen : List ℕ) (c : ℕ) (v : List ℕ) → Fine rule caps c v → member c seen ≡ false
    → item_code rule caps seen (whole c v) ≡ 0
unfolding item_code
fine_code rule caps seen c v f new = rw (f.known, f.free, new, f.long, f.given)

-- no fault over a list, and none over its parts
module _ (f later : Fault) (e : (fault_or f later).code ≡ 0) where
  pub clean_head : f.code ≡ 0
  unfolding fault_or
  clean_head = go (told (eqb f.code 0))
    where
      go : Told? (eqb f.code 0) → f.code ≡ 0
      go (passed t) = eqb-true f.code 0 t
      go (failed t) = rw t at e

  pub clean_tail : later.code ≡ 0
  unfolding fault_or
  clean_tail = rw (eq-eqb f.code 0 clean_head) at e

-- the rule of a command: each element is judged by `item_code`
abbrev pub Asks : Rule → Type 0
Asks rule = (caps : List Item) (seen : List ℕ) (i : Item) → judge rule caps seen i ≡ item_code rule caps seen i

pub setting_asks : Asks Setting
unfolding judge
setting_asks caps seen i = refl

pub reconfiguring_asks : Asks Reconfiguring
unfolding judge
reconfiguring_asks caps seen i = refl

-- each element that can be picked is fine
abbrev pub AllFine : Rule → List Item → List Item → Type 0
AllFine rule caps is = (c : ℕ) (v : List ℕ) → value_of c is ≡ some v → Fine rule caps c v

fine_first : (rule : Rule) (caps : List Item) (d : ℕ) (w : List ℕ) (is : List Item) → Fine rule caps d w
    → AllFine rule caps is → AllFine rule caps (whole d w ∷ is)
unfolding value_of
fine_first rule caps d w is f rest c v p = go (told (eqb c d))
  where
    go : Told? (eqb c d) → Fine rule caps c v
    go (passed e) =
        let same : w ≡ v = cc (rw e at p) in
        subst₂ (Fine rule caps) (sym (eqb-true c d e)) same f
    go (failed e) = rest c v (rw e at p)

clean_fine : (rule : Rule) → Asks rule → (caps : List Item) (seen : List ℕ) (is : List Item)
    → (fault_past rule caps seen is).code ≡ 0 → AllFine rule caps is
unfolding fault_past blamed value_of item_category
clean_fine rule asks caps seen [] e = λ c v p. let z : ◌≡◌ {A = ℕ} 0 1 = cc in absurd (omega arith)
clean_fine rule asks caps seen (short d ∷ is) e = clean_fine rule asks caps (d ∷ seen) is (clean_tail _ _ e)
clean_fine rule asks caps seen (whole d w ∷ is) e =
    fine_first rule caps d w is (fine_of rule caps seen d w (sym (asks caps seen (whole d w)) ∙ clean_head _ _ e))
    (clean_fine rule asks caps (d ∷ seen) is (clean_tail _ _ e))

pub fine_kept : (caps : List Item) (c : ℕ) (v : List ℕ) → Fine Setting caps c v → Fine Setting caps c (kept c v)
fine_kept caps c v f =
    record {
      known = f.known;
      free = f.free;
      long = rw kept_length f.long;
      given = rw kept_offered f.given;
    }

-- What is picked of a category has no fault before a list that has none.
one_clean : (caps : List Item) (seen : List ℕ) (c : ℕ) (o : Option (List ℕ)) (rest : List Item)
    → ((v : List ℕ) → o ≡ some v → Fine Setting caps c v) → member c seen ≡ false
    → (o ≡ none → (fault_past Setting caps seen rest).code ≡ 0) → (fault_past Setting caps (c ∷ seen) rest).code ≡ 0
    → (fault_past Setting caps seen (items_of c (kept_of c o) ++ rest)).code ≡ 0
unfolding fault_past judge blamed items_of kept_of item_category fault_or
one_clean caps seen c none rest fine new e e' = e refl
one_clean caps seen c (some v) rest fine new e e' =
    rw (fine_code Setting caps seen c (kept c v) (fine_kept caps c v (fine v refl)) new) e'

distinct : List ℕ → Bool
distinct [] = true
distinct (c ∷ cs) = not (member c cs) && distinct cs

distinct_head : (c : ℕ) (cs : List ℕ) → distinct (c ∷ cs) ≡ true → member c cs ≡ false
unfolding distinct
distinct_head c cs d = not_passed (member c cs) (and_l (not (member c cs)) (distinct cs) d)

distinct_tail : (c : ℕ) (cs : List ℕ) → distinct (c ∷ cs) ≡ true → distinct cs ≡ true
unfolding distinct
distinct_tail c cs d = and_r (not (member c cs)) (distinct cs) d

other_category : (b c : ℕ) (cs : List ℕ) → member b cs ≡ true → member c cs ≡ false → eqb b c ≡ false
other_category b c cs m n = ne_eqb b c (λ e. clash m (rw e n))

-- ---- At the end 1 and 7 are there

-- what the end of a Set Configuration tells
both_seen : (seen : List ℕ) → (lacking Setting seen).code ≡ 0 → (member 1 seen ≡ true) × (member 7 seen ≡ true)
unfolding lacking missing
both_seen seen e = there (member 1 seen) (member 7 seen) e
  where
    there : (a b : Bool)
        → (if not a then record { category = 1; code = 0x29 }
        else if not b then record { category = 7; code = 0x29 }
        else no_fault).code ≡ 0
        → (a ≡ true) × (b ≡ true)
    there true true z = (refl, refl)
    there true false z = absurd (suc-ne-zero 0x28 z)
    there false b z = absurd (suc-ne-zero 0x28 z)

-- a category that is seen at the end is one of the list, or was seen before it
clean_has : (caps : List Item) (c : ℕ) → ((seen : List ℕ) → (lacking Setting seen).code ≡ 0 → member c seen ≡ true)
    → (seen : List ℕ) (is : List Item) → (fault_past Setting caps seen is).code ≡ 0 → member c seen || has c is ≡ true
unfolding fault_past judge item_code blamed item_category member has some_of is_of
clean_has caps c ends seen [] e = or_l (member c seen) false (ends seen e)
clean_has caps c ends seen (short d ∷ is) e = absurd (suc-ne-zero 0x10 (clean_head _ _ e))
clean_has caps c ends seen (whole d v ∷ is) e =
    swap (eqb c d) (member c seen) (has c is) (clean_has caps c ends (d ∷ seen) is (clean_tail _ _ e))
  where
    swap : (a b h : Bool) → (a || b) || h ≡ true → b || (a || h) ≡ true
    swap true true h t = refl
    swap true false h t = refl
    swap false b h t = t

-- a category that is still to be picked, or was seen
abbrev Due : ℕ → List ℕ → List ℕ → List Item → Type 0
Due b cs seen is = (member b cs && has b is) || member b seen ≡ true

due_none : (b c : ℕ) (cs seen : List ℕ) (is : List Item) → value_of c is ≡ none → Due b (c ∷ cs) seen is → Due b cs seen is
unfolding member is_there
due_none b c cs seen is e due =
    go (eqb b c) (member b cs) (has b is) (member b seen) due
    (λ t. ap (λ n. has n is) (eqb-true b c t) ∙ has_value c is ∙ ap is_there e)
  where
    go : (a p h m : Bool) → ((a || p) && h) || m ≡ true → (a ≡ true → h ≡ false) → (p && h) || m ≡ true
    go true p true m d f = clash refl (f refl)
    go true true false m d f = d
    go true false false m d f = d
    go false p h m d f = d

due_some : (b c : ℕ) (cs seen : List ℕ) (is : List Item) → Due b (c ∷ cs) seen is → Due b cs (c ∷ seen) is
unfolding member
due_some b c cs seen is due = go (eqb b c) (member b cs) (has b is) (member b seen) due
  where
    go : (a p h m : Bool) → ((a || p) && h) || m ≡ true → (p && h) || (a || m) ≡ true
    go true true true m d = refl
    go true true false m d = refl
    go true false h m d = refl
    go false p h m d = d

picks_clean : (caps is : List Item) → AllFine Setting caps is → (cs seen : List ℕ) → distinct cs ≡ true
    → ((c : ℕ) → member c cs ≡ true → member c seen ≡ false) → Due 1 cs seen is → Due 7 cs seen is
    → (fault_past Setting caps seen (items (picks cs is))).code ≡ 0
unfolding picks member fault_past lacking missing no_fault
picks_clean caps is fine [] seen d new one seven = rw (items_none, one, seven)
picks_clean caps is fine (c ∷ cs) seen d new one seven =
    let rest = distinct_tail c cs d in
    let later : (b : ℕ) → member b cs ≡ true → member b seen ≡ false = λ b m. new b (or_r (eqb b c) (member b cs) m) in
    rw (items_picks c cs is)
    (one_clean caps seen c (value_of c is) (items (picks cs is)) (fine c)
    (new c (or_l (eqb c c) (member c cs) (eq-eqb c c refl)))
    (λ e. picks_clean caps is fine cs seen rest later (due_none 1 c cs seen is e one) (due_none 7 c cs seen is e seven))
    (picks_clean caps is fine cs (c ∷ seen) rest
    (λ b m. ap₂ ◌||◌ (other_category b c cs m (distinct_head c cs d)) (later b m))
    (due_some 1 c cs seen is one) (due_some 7 c cs seen is seven)))

-- ---- Set Configuration's check: no fault of an element, and 1 and 7 are there

pub record Sound (caps is : List Item) : Type 0 where
  pub fine : AllFine Setting caps is
  pub one : has 1 is ≡ true
  pub seven : has 7 is ≡ true

setting_sound : (caps is : List Item) → (fault_in Setting caps is).code ≡ 0 → Sound caps is
unfolding fault_in member
setting_sound caps is e =
    record {
      fine = clean_fine Setting setting_asks caps [] is e;
      one = clean_has caps 1 (λ seen z. (both_seen seen z).0) [] is e;
      seven = clean_has caps 7 (λ seen z. (both_seen seen z).1) [] is e;
    }

pub could_clean : (caps : List Item) (l : List ℕ) → could_store caps l ≡ true → (fault_in Setting caps (items l)).code ≡ 0
unfolding could_store
could_clean caps l e =
    eqb-true _ 0 (and_l (eqb (fault_in Setting caps (items l)).code 0) (same_octets (stored (items l)) l) e)

pub could_sound : (caps : List Item) (l : List ℕ) → could_store caps l ≡ true → Sound caps (items l)
could_sound caps l e = setting_sound caps (items l) (could_clean caps l e)

pub could_same : (caps : List Item) (l : List ℕ) → could_store caps l ≡ true → stored (items l) ≡ l
unfolding could_store
could_same caps l e =
    same_octets_lem (stored (items l)) l
    (and_r (eqb (fault_in Setting caps (items l)).code 0) (same_octets (stored (items l)) l) e)

-- What is picked from fine elements with 1 and 7 could be stored.
fine_could : (caps is : List Item) → Sound caps is → could_store caps (stored is) ≡ true
unfolding could_store fault_in stored offerable distinct member
fine_could caps is p =
    and_both (eqb (fault_in Setting caps (items (stored is))).code 0) (same_octets (stored (items (stored is))) (stored is))
    (eq-eqb _ 0
    (picks_clean caps is p.fine offerable [] refl (λ c m. refl) (or_l (has 1 is) false p.one)
    (or_l (has 7 is) false p.seven)))
    (rw stored_again (octets_same (stored is)))

pub stored_could : (caps is : List Item) → (fault_in Setting caps is).code ≡ 0 → could_store caps (stored is) ≡ true
stored_could caps is e = fine_could caps is (setting_sound caps is e)

-- ---- Reconfigure: the new elements before the old ones

has_append : (c : ℕ) (is js : List Item) → has c (is ++ js) ≡ has c is || has c js
unfolding either is_there
has_append c is js =
    has_value c (is ++ js) ∙ ap is_there (value_append c is js) ∙ there (value_of c is) (value_of c js)
    ∙ sym (ap₂ ◌||◌ (has_value c is) (has_value c js))
  where
    there : (o p : Option (List ℕ)) → is_there (either o p) ≡ is_there o || is_there p
    there none p = refl
    there (some v) p = refl

fine_append : (rule : Rule) (caps is js : List Item) → AllFine rule caps is → AllFine rule caps js → AllFine rule caps (is ++ js)
unfolding either
fine_append rule caps is js f g c v p = go (value_of c is) refl
  where
    q : either (value_of c is) (value_of c js) ≡ some v
    q = sym (value_append c is js) ∙ p

    go : (o : Option (List ℕ)) → value_of c is ≡ o → Fine rule caps c v
    go none e = g c v (rw e at q)
    go (some w) e = f c v (e ∙ (rw e at q))

-- what Reconfigure takes, Set Configuration takes too
fine_setting : (caps : List Item) (c : ℕ) (v : List ℕ) → Fine Reconfiguring caps c v → Fine Setting caps c v
unfolding fixed
fine_setting caps c v f = record { known = f.known; free = refl; long = f.long; given = f.given }

pub restored_could : (caps is : List Item) (old : List ℕ) → could_store caps old ≡ true
    → (fault_in Reconfiguring caps is).code ≡ 0 → could_store caps (restored is (items old)) ≡ true
unfolding restored fault_in
restored_could caps is old could e =
    let p = could_sound caps old could in
    let new = clean_fine Reconfiguring reconfiguring_asks caps [] is e in
    fine_could caps (is ++ items old)
    (record {
      fine = fine_append Setting caps is (items old) (λ c v q. fine_setting caps c v (new c v q)) p.fine;
      one = has_append 1 is (items old) ∙ or_r (has 1 is) (has 1 (items old)) p.one;
      seven = has_append 7 is (items old) ∙ or_r (has 7 is) (has 7 (items old)) p.seven;
    })

-- delay reporting is fixed: 8 gives 1Ah in a Reconfigure, so no new element is one
none_delaying : (caps is : List Item) → (fault_in Reconfiguring caps is).code ≡ 0 → has 8 is ≡ false
unfolding is_there fixed category_of fault_in
none_delaying caps is e = has_value 8 is ∙ go (value_of 8 is) refl
  where
    go : (o : Option (List ℕ)) → value_of 8 is ≡ o → is_there (value_of 8 is) ≡ false
    go none q = ap is_there q
    go (some v) q = clash refl (clean_fine Reconfiguring reconfiguring_asks caps [] is e 8 v q).free

pub restored_has_8 : (caps is old : List Item) → (fault_in Reconfiguring caps is).code ≡ 0
    → has 8 (items (restored is old)) ≡ has 8 old
unfolding restored offerable member
restored_has_8 caps is old e = stored_has 8 refl (is ++ old) ∙ has_append 8 is old ∙ rw (none_delaying caps is e)

-- ---- A configuration that could be stored is not empty

pub could_not_empty : (caps : List Item) (config : List ℕ) → could_store caps config ≡ true → is_empty config ≡ false
unfolding is_empty has some_of
could_not_empty caps [] e = clash (rw items_none at (could_sound caps [] e).one) refl
could_not_empty caps (x ∷ xs) e = refl

-- ---- A configuration that could be stored is no longer than what is offered

-- A value that is within an offered one is no longer than it, in the categories that a book can offer: it is empty, or as long.
empty_within : (k : ℕ) (v w : List ℕ) → (if eqb (length v) 0 then 0 else suc k) ≡ 0 → length v ≤ length w
empty_within k [] w e = zero-le
empty_within k (x ∷ v) w e = absurd (suc-ne-zero k (rw (eqb-suc-zero (length v)) at e))

bits_within_lem : (v w : List ℕ) → bits_within v w ≡ true → length v ≤ length w
unfolding bits_within
bits_within_lem [] w e = zero-le
bits_within_lem (x ∷ v) [] e = clash refl (sym e)
bits_within_lem (x ∷ v) (y ∷ w) e = suc-le-suc (bits_within_lem v w (and_r (eqb (bit_and x y) x) (bits_within v w) e))

codec_within_lem : (v w : List ℕ) → codec_within v w ≡ true → length v ≤ length w
unfolding codec_within
codec_within_lem [] w e = zero-le
codec_within_lem (m ∷ []) w e = clash refl (sym e)
codec_within_lem (m ∷ t ∷ v) [] e = clash refl (sym e)
codec_within_lem (m ∷ t ∷ v) (m' ∷ []) e = clash refl (sym e)
codec_within_lem (m ∷ t ∷ v) (m' ∷ t' ∷ w) e =
    suc-le-suc (suc-le-suc (bits_within_lem v w (and_r (eqb (m / 16) (m' / 16) && eqb t t') (bits_within v w) e)))

abbrev NoLonger : ℕ → Type 0
NoLonger c =
    (v w : List ℕ) → length_code (category_of c) (length v) ≡ 0 → value_within (category_of c) v w ≡ true → length v ≤ length w

abbrev Each : (ℕ → Type 0) → List ℕ → Type 0
Each P [] = Unit {0}
Each P (c ∷ cs) = P c × Each P cs

offerable_within : Each NoLonger offerable
unfolding offerable category_of length_code value_within
offerable_within = (
  λ v w n e. empty_within 0x22 v w n,
  (
    λ v w n e. empty_within 0x17 v w n,
    (
      λ v w n e. le_of_eq (ap length (same_octets_lem v w e)),
      (
        λ v w n e. codec_within_lem v w e,
        (λ v w n e. empty_within 0x17 v w n, tt),
      ),
    ),
  ),
)

-- the octets that the elements take whose category passes a test
size_of : (ℕ → Bool) → List Item → ℕ
size_of p [] = 0
size_of p (short d ∷ is) = size_of p is
size_of p (whole d v ∷ is) = (if p d then length (element d v) else 0) + size_of p is

size_written : (p : ℕ → Bool) (is : List Item) → size_of p is ≤ length (written is)
unfolding size_of written
size_written p [] = zero-le
size_written p (short d ∷ is) = size_written p is
size_written p (whole d v ∷ is) = rw length-append (go (p d) (size_written p is))
  where
    go : (b : Bool) → size_of p is ≤ length (written is)
        → (if b then length (element d v) else 0) + size_of p is ≤ length (element d v) + length (written is)
    go true h = omega arith
    go false h = omega arith

size_apart : (p q : ℕ → Bool) (is : List Item) → ((d : ℕ) → p d ≡ true → q d ≡ false)
    → size_of p is + size_of q is ≤ size_of (λ d. p d || q d) is
unfolding size_of
size_apart p q [] apart = zero-le
size_apart p q (short d ∷ is) apart = size_apart p q is apart
size_apart p q (whole d v ∷ is) apart = go (p d) (q d) (apart d) (size_apart p q is apart)
  where
    go : (a b : Bool) → (a ≡ true → b ≡ false) → size_of p is + size_of q is ≤ size_of (λ d. p d || q d) is
        → (if a then length (element d v) else 0) + size_of p is + ((if b then length (element d v) else 0) + size_of q is)
        ≤ (if a || b then length (element d v) else 0) + size_of (λ d. p d || q d) is
    go true true f h = clash refl (f refl)
    go true false f h = omega arith
    go false true f h = omega arith
    go false false f h = omega arith

-- an offered value has its room among what is offered
offered_size : (caps : List Item) (c : ℕ) (v : List ℕ) → NoLonger c → length_code (category_of c) (length v) ≡ 0
    → some_of (offers_in c v) caps ≡ true → length (element c v) ≤ size_of (λ d. eqb d c) caps
unfolding some_of offers_in size_of element
offered_size [] c v long n e = clash refl (sym e)
offered_size (short d ∷ caps) c v long n e = offered_size caps c v long n e
offered_size (whole d w ∷ caps) c v long n e =
    go (told (eqb c d && value_within (category_of c) v w)) (offered_size caps c v long n)
  where
    go : Told? (eqb c d && value_within (category_of c) v w)
        → (some_of (offers_in c v) caps ≡ true → length (element c v) ≤ size_of (λ d. eqb d c) caps)
        → length (element c v) ≤ (if eqb d c then length (element d w) else 0) + size_of (λ d. eqb d c) caps
    go (passed p) rest =
        let same : c ≡ d = eqb-true c d (and_l (eqb c d) (value_within (category_of c) v w) p) in
        let fits : length v ≤ length w = long v w n (and_r (eqb c d) (value_within (category_of c) v w) p) in
        rw (eq-eqb d c (sym same)) (omega arith)
    go (failed p) rest = let h = rest (rw p at e) in omega arith

pick_size : (caps is : List Item) → AllFine Setting caps is → (c : ℕ) → NoLonger c
    → length (pick c is) ≤ size_of (λ d. eqb d c) caps
unfolding offered octets_of kept_of
pick_size caps is fine c long = rw pick_value (go (value_of c is) refl)
  where
    go : (o : Option (List ℕ)) → value_of c is ≡ o → length (octets_of c (kept_of c o)) ≤ size_of (λ d. eqb d c) caps
    go none e = zero-le
    go (some v) e =
        let f = fine_kept caps c v (fine c v e) in
        offered_size caps c (kept c v) long f.long f.given

-- each picked element has its room apart from the others
picks_size : (caps is : List Item) → AllFine Setting caps is → (cs : List ℕ) → distinct cs ≡ true → Each NoLonger cs
    → length (picks cs is) ≤ size_of (λ d. member d cs) caps
unfolding picks member
picks_size caps is fine [] d long = zero-le
picks_size caps is fine (c ∷ cs) d long =
    let one = pick_size caps is fine c long.0 in
    let others = picks_size caps is fine cs (distinct_tail c cs d) long.1 in
    let apart = size_apart (λ b. eqb b c) (λ b. member b cs) caps (λ b e. rw (eqb-true b c e) (distinct_head c cs d)) in
    rw length-append (omega arith)

pub could_short : (l config : List ℕ) → could_store (items l) config ≡ true → length config ≤ length l
unfolding stored distinct offerable member
could_short l config e =
    let fine = (could_sound (items l) config e).fine in
    let picked = picks_size (items l) (items config) fine offerable refl offerable_within in
    let room = size_written (λ d. member d offerable) (items l) in
    omega (arith, ap length (could_same (items l) config e), written_length l)

-- ---- The first entry of the trace book: the hypotheses above are met

abbrev offers : List ℕ
offers = 0x01 ∷ 0x00 ∷ 0x07 ∷ 0x06 ∷ 0x00 ∷ 0x00 ∷ 0xFF ∷ 0xFF ∷ 0x02 ∷ 0x35 ∷ 0x08 ∷ 0x00 ∷ []

-- Set Configuration, with the categories in another order and reserved bits set
abbrev asks : List ℕ
asks = 0x07 ∷ 0x06 ∷ 0x0F ∷ 0x00 ∷ 0x21 ∷ 0x15 ∷ 0x02 ∷ 0x35 ∷ 0x08 ∷ 0x00 ∷ 0x01 ∷ 0x00 ∷ []

abbrev keeps : List ℕ
keeps = 0x01 ∷ 0x00 ∷ 0x07 ∷ 0x06 ∷ 0x00 ∷ 0x00 ∷ 0x21 ∷ 0x15 ∷ 0x02 ∷ 0x35 ∷ 0x08 ∷ 0x00 ∷ []

pub asks_clean : (fault_in Setting (items offers) (items asks)).code ≡ 0
unfolding computed
asks_clean = refl

pub asks_stored : stored (items asks) ≡ keeps
unfolding computed
asks_stored = refl

pub keeps_could : could_store (items offers) keeps ≡ true
unfolding computed
keeps_could = refl

-- Reconfigure, with another codec setting
abbrev asks_anew : List ℕ
asks_anew = 0x07 ∷ 0x06 ∷ 0x05 ∷ 0x00 ∷ 0x11 ∷ 0x02 ∷ 0x02 ∷ 0x20 ∷ []

pub anew_clean : (fault_in Reconfiguring (items offers) (items asks_anew)).code ≡ 0
unfolding computed
anew_clean = refl

pub anew_stored : restored (items asks_anew) (items keeps)
    ≡ 0x01 ∷ 0x00 ∷ 0x07 ∷ 0x06 ∷ 0x00 ∷ 0x00 ∷ 0x11 ∷ 0x02 ∷ 0x02 ∷ 0x20 ∷ 0x08 ∷ 0x00 ∷ []
unfolding computed
anew_stored = refl

pub anew_could : could_store (items offers) (restored (items asks_anew) (items keeps)) ≡ true
unfolding computed
anew_could = refl
