-- How far a burst has got: what is told of the packets taken and what stands in their 64 octets each, before what the packets
-- left come to on the areas as they are, is what all of them come to. A packet more moves one from what is left to what is done.
use Prim.Native.Nat.{ℕ, suc, ◌+◌, ◌-◌, ◌*◌, ◌≤◌, ◌<◌, min}
use native.Mathlib.Omega.{arith}
use mathlib.Core.Path.{◌≡◌, refl, sym, ap, ap₂, ◌∙◌, subst}
use mathlib.Core.List.{List, [], ◌∷◌, ◌++◌, append_assoc, append-nil}
use mathlib.Core.Bool.{true}
use lib.ListN.{length, take, drop, get_or, set, replicate, length-append, length-drop, take-append-drop, drop_of_length-le}
use lib.Seq.{length-take-le, take_at, drop_at, drop-drop, drop-cons, append_snoc, set_at}
use Rattle.std.proofs.lemmas.List.{take_min, drop_min}
use Rattle.rules.specs.Book.{book_of}
use Rattle.rules.specs.Saved.{saved_right}
use Rattle.rules.specs.Host.{nothing_said, Answered, packet_call}
use Rattle.rules.specs.Bursts.{packets_in, slot, most_packets, Successive, and_then, successive, filled, BurstAnswered}
use Rattle.rules.specs.Bursts.{burst_taken}
use Rattle.rules.specs.declared.Told.{Told}
use Rattle.rules.proofs.Unrefused.{BurstGiven}
use Rattle.rules.proofs.Bursts.{successive_first}
use Rattle.rules.proofs.OneByOne.{comes, next_right, first_slot}
use Rattle.bridge_packet.specs.Taken.{taken_on}
use Rattle.bridge_burst.specs.Slots.{taken_at, MayTakeAt}

-- ---- The 64 octets of a packet, lent and come back

pub slot_back : (book : List ℕ) (size : ℕ) (saved p : List ℕ) (from : ℕ) (reply : List ℕ) (n : ℕ) → n ≡ slot → (x : Answered)
    → x ≡ taken_on book size saved p (take n (drop from reply))
    → ◌≡◌ {A = Answered}
    (record { told = x.told; saved = x.saved; reply = take from reply ++ (x.reply ++ drop n (drop from reply)) })
    (taken_at book size saved p from reply)
unfolding taken_at
slot_back book size saved p from reply n e x taken =
    ap (λ (y : Answered).
    record { told = y.told; saved = y.saved; reply = take from reply ++ (y.reply ++ drop n (drop from reply)) })
    taken
    ∙ ap (λ (k : ℕ).
    let y = taken_on book size saved p (take k (drop from reply)) in
    record { told = y.told; saved = y.saved; reply = take from reply ++ (y.reply ++ drop k (drop from reply)) })
    e
    ∙ ap (λ (d : List ℕ).
    let y = taken_on book size saved p (take slot (drop from reply)) in
    record { told = y.told; saved = y.saved; reply = take from reply ++ (y.reply ++ d) })
    (drop-drop slot from reply)

-- ---- What is done, before what is left

unfoldable pub thus : List Told → List ℕ → Successive → Successive
thus done written rest = record { told = done ++ rest.told; saved = rest.saved; reply = written ++ rest.reply }

thus_more : (done : List Told) (written : List ℕ) (a : Answered) (rest : Successive)
    → thus done written (and_then a rest) ≡ thus (done ++ (a.told ∷ [])) (written ++ a.reply) rest
unfolding thus and_then
thus_more done written a rest =
    ap₂ (λ (t : List Told) (r : List ℕ). record { told = t; saved = rest.saved; reply = r })
    (sym (append_snoc done a.told rest.told)) (sym (append_assoc written a.reply rest.reply))

module _ (book : List ℕ) (size : ℕ) (saved₀ octets lengths reply₀ : List ℕ) where
  pub record Reached (said : List Told) (saved reply : List ℕ) (at i : ℕ) : Type 0 where
    pub done : List Told
    pub count : length done ≡ i
    pub told : said ≡ done ++ replicate (most_packets - i) (nothing_said 0)
    pub within : at ≤ length octets
    pub right : saved_right (book_of book) saved ≡ true
    pub long : length reply ≡ length reply₀
    pub left :
        successive book size saved₀ (packets_in octets lengths) reply₀
        ≡ thus done (take (i * slot) reply)
        (successive book size saved (packets_in (drop at octets) (drop i lengths)) (drop (i * slot) reply))

  pub reached_first : saved_right (book_of book) saved₀ ≡ true
      → Reached (replicate most_packets (nothing_said 0)) saved₀ reply₀ 0 0
  unfolding thus
  reached_first right =
      record { done = []; count = refl; told = refl; within = omega arith; right = right; long = refl; left = refl }

  -- all are taken
  pub reached_all : {said : List Told} {saved reply : List ℕ} {at i : ℕ} → Reached said saved reply at i → length lengths ≤ i
      → ◌≡◌ {A = BurstAnswered} (record { burst = record { number = 0; told = said }; saved = saved; reply = reply })
      (burst_taken book size saved₀ (packets_in octets lengths) reply₀)
  unfolding burst_taken filled thus successive packets_in
  reached_all {said} {saved} {reply} {at} {i} r end =
      let none = drop_of_length-le lengths end in
      let all : successive book size saved₀ (packets_in octets lengths) reply₀
      ≡ record { told = r.done; saved = saved; reply = reply } =
      r.left
      ∙ ap (λ (l : List ℕ).
      thus r.done (take (i * slot) reply)
      (successive book size saved (packets_in (drop at octets) l) (drop (i * slot) reply)))
      none
      ∙ ap₂ (λ (t : List Told) (w : List ℕ). record { told = t; saved = saved; reply = w }) (append-nil r.done)
      (take-append-drop (i * slot) reply) in
      let done = r.told ∙ ap (λ (k : ℕ). r.done ++ replicate (most_packets - k) (nothing_said 0)) (sym r.count) in
      ap (λ (t : List Told). record { burst = record { number = 0; told = t }; saved = saved; reply = reply }) done
      ∙ ap (λ (s : Successive).
      record { burst = record { number = 0; told = filled s.told }; saved = s.saved; reply = s.reply })
      (sym all)

  module _ (given : BurstGiven book size saved₀ lengths reply₀) {said : List Told} {saved reply : List ℕ} {at i : ℕ}
      (r : Reached said saved reply at i) (more : i < length lengths) where
    pub room_left : (i * slot) + slot ≤ length reply
    room_left = let few = given.few in let room = given.room in let long = r.long in omega arith

    pub may_take_at : MayTakeAt book saved (i * slot) reply
    may_take_at = record { legal = r.right; room = room_left }

    -- the next packet takes its octets, and leaves the others behind it
    next_within : (n : ℕ) → at + min n (length octets - at) ≤ length octets
    next_within n = let within = r.within in omega arith

    abbrev n : ℕ
    n = get_or lengths i 0

    next_packet : packets_in (drop at octets) (drop i lengths)
        ≡ take n (drop at octets) ∷ packets_in (drop n (drop at octets)) (drop (suc i) lengths)
    unfolding packets_in
    next_packet = ap (packets_in (drop at octets)) (drop-cons lengths i 0 more)

    -- what it comes to on its 64 octets
    a : Answered
    a = taken_on book size saved (take n (drop at octets)) (take slot (drop (i * slot) reply))

    here : slot ≤ length (drop (i * slot) reply)
    here = let left = length-drop (i * slot) reply in let room = room_left in omega arith

    come : packet_call book size saved (take n (drop at octets)) (take slot (drop (i * slot) reply)) ≡ a
    unfolding a taken_on
    come =
        let whole = length-take-le slot (drop (i * slot) reply) here in
        comes book size given.given.book given.sized saved _ (take slot (drop (i * slot) reply)) r.right (omega arith)

    a_right : saved_right (book_of book) a.saved ≡ true
    a_right =
        let whole = length-take-le slot (drop (i * slot) reply) here in
        subst (λ (x : Answered). saved_right (book_of book) x.saved ≡ true) come
        (next_right book size given.given.book given.sized saved _ (take slot (drop (i * slot) reply)) r.right
        (omega arith))

    a_whole : length a.reply ≡ slot
    a_whole =
        sym (ap (λ (x : Answered). length x.reply) come)
        ∙ first_slot book size given.given.book given.sized saved _ (drop (i * slot) reply) r.right here

    -- the reply area with it: what stands before, its 64 octets, and what stands behind
    front : List ℕ
    front = take (i * slot) reply

    behind : List ℕ
    behind = drop (i * slot + slot) reply

    front_long : length (front ++ a.reply) ≡ (i + 1) * slot
    unfolding front
    front_long =
        let before = length-take-le (i * slot) reply (omega (arith, room_left)) in
        let whole = a_whole in
        length-append front a.reply ∙ omega arith

    all_long : length (front ++ (a.reply ++ behind)) ≡ length reply₀
    unfolding front behind
    all_long =
        let before = length-take-le (i * slot) reply (omega (arith, room_left)) in
        let after = length-drop (i * slot + slot) reply in
        let parts = length-append front (a.reply ++ behind) in
        let parts' = length-append a.reply behind in
        let whole = a_whole in
        let long = r.long in
        let room = room_left in
        omega arith

    all_front : take ((i + 1) * slot) (front ++ (a.reply ++ behind)) ≡ front ++ a.reply
    all_front =
        ap (take ((i + 1) * slot)) (sym (append_assoc front a.reply behind))
        ∙ take_at (front ++ a.reply) behind ((i + 1) * slot) front_long

    all_behind : drop ((i + 1) * slot) (front ++ (a.reply ++ behind)) ≡ drop slot (drop (i * slot) reply)
    unfolding behind
    all_behind =
        ap (drop ((i + 1) * slot)) (sym (append_assoc front a.reply behind))
        ∙ drop_at (front ++ a.reply) behind ((i + 1) * slot) front_long
        ∙ sym (drop-drop slot (i * slot) reply)

    said_next : set said i a.told ≡ (r.done ++ (a.told ∷ [])) ++ replicate (most_packets - (i + 1)) (nothing_said 0)
    said_next =
        let few = given.few in
        let one_more : most_packets - i ≡ suc (most_packets - (i + 1)) = omega arith in
        ap (λ (l : List Told). set l i a.told)
        (r.told ∙ ap (λ (k : ℕ). r.done ++ replicate k (nothing_said 0)) one_more)
        ∙ set_at r.done (nothing_said 0) (replicate (most_packets - (i + 1)) (nothing_said 0)) a.told i r.count
        ∙ sym (append_snoc r.done a.told (replicate (most_packets - (i + 1)) (nothing_said 0)))

    module _ (taken : ℕ) (es : taken ≡ min n (length octets - at)) where
      fitted : taken ≡ min n (length (drop at octets))
      fitted = es ∙ ap (min n) (sym (length-drop at octets))

      same_packet : take taken (drop at octets) ≡ take n (drop at octets)
      same_packet = ap (λ (k : ℕ). take k (drop at octets)) fitted ∙ take_min n (drop at octets)

      same_rest : drop n (drop at octets) ≡ drop (at + taken) octets
      same_rest =
          sym (drop_min n (drop at octets))
          ∙ ap (λ (k : ℕ). drop k (drop at octets)) (sym fitted)
          ∙ drop-drop taken at octets

      rest : Successive
      rest =
          successive book size a.saved (packets_in (drop n (drop at octets)) (drop (suc i) lengths))
          (drop slot (drop (i * slot) reply))

      rest_next : rest
          ≡ successive book size a.saved (packets_in (drop (at + taken) octets) (drop (i + 1) lengths))
          (drop ((i + 1) * slot) (front ++ (a.reply ++ behind)))
      unfolding rest
      rest_next =
          let next : suc i ≡ i + 1 = omega arith in
          ap₂ (λ (o : List ℕ) (k : ℕ).
          successive book size a.saved (packets_in o (drop k lengths)) (drop slot (drop (i * slot) reply)))
          same_rest next
          ∙ ap (successive book size a.saved (packets_in (drop (at + taken) octets) (drop (i + 1) lengths))) (sym all_behind)

      left_next : successive book size saved₀ (packets_in octets lengths) reply₀
          ≡ thus (r.done ++ (a.told ∷ [])) (front ++ a.reply) rest
      unfolding rest front
      left_next =
          r.left
          ∙ ap (thus r.done (take (i * slot) reply))
          (ap (λ (ps : List (List ℕ)). successive book size saved ps (drop (i * slot) reply)) next_packet
          ∙ successive_first book size saved _ _ (drop (i * slot) reply) a come)
          ∙ thus_more r.done (take (i * slot) reply) a rest

      next_reached : Reached (set said i a.told) a.saved (front ++ (a.reply ++ behind)) (at + taken) (i + 1)
      next_reached =
          record {
            done = r.done ++ (a.told ∷ []);
            count = length-append r.done (a.told ∷ []) ∙ ap (λ (k : ℕ). k + 1) r.count;
            told = said_next;
            within = rw es (next_within n);
            right = a_right;
            long = all_long;
            left = left_next ∙ ap₂ (thus (r.done ++ (a.told ∷ []))) (sym all_front) rest_next;
          }

      pub reached_next : (p : List ℕ) (t : Told) (saved' reply' : List ℕ) → p ≡ take taken (drop at octets)
          → ◌≡◌ {A = Answered} (record { told = t; saved = saved'; reply = reply' }) (taken_at book size saved p (i * slot) reply)
          → Reached (set said i t) saved' reply' (at + taken) (i + 1)
      unfolding taken_at a front behind
      reached_next p t saved' reply' ep e =
          subst (λ (x : Answered). Reached (set said i x.told) x.saved x.reply (at + taken) (i + 1))
          (sym (e ∙ ap (λ (q : List ℕ). taken_at book size saved q (i * slot) reply) (ep ∙ same_packet)))
          next_reached
