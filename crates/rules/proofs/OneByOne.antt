-- A burst is its packets one by one: by induction on the packets, each is taken on a right area within its own 64 octets and
-- leaves a right area to the next, so it is not refused, and the octets of the others are as they were.
use Prim.Native.Nat.{ℕ, ◌≤◌, ◌*◌, ◌+◌}
use native.Mathlib.Nat.{le_trans}
use native.Mathlib.Omega.{arith}
use mathlib.Core.Path.{◌≡◌, refl, sym, ap, ap₂, ◌∙◌}
use mathlib.Core.List.{List, [], ◌∷◌, ◌++◌}
use mathlib.Core.Bool.{true}
use lib.ListN.{length, take, drop, length-drop}
use lib.Seq.{length-take-le, take_at, drop_at, drop-drop}
use borrow.Author.Tests.{eq-eqb}
use Rattle.rules.specs.Octets.{each_of, front}
use Rattle.rules.specs.Book.{book_number, book_of}
use Rattle.rules.specs.Packets.{size_right}
use Rattle.rules.specs.Saved.{connection_in, store, saved_right}
use Rattle.rules.specs.Host.{takes, Answered, packet_call}
use Rattle.rules.specs.Bursts.{packets_in, slot, and_then, successive, burst_refusal, burst_taken, burst_call}
use Rattle.rules.specs.Sessions.{Answer, packet, told, answered, call, answers, after}
use Rattle.rules.specs.OneByOne.{packet_calls, slot_answers, is_taken, OneByOne}
use Rattle.rules.proofs.Tests.{and_both}
use Rattle.rules.proofs.RightBook.{right_book}
use Rattle.rules.proofs.ShortReplies.{reply_short}
use Rattle.rules.proofs.Unrefused.{burst_given}
use Rattle.rules.proofs.SavedReads.{front_length}
use Rattle.rules.proofs.View.{no_number, packet_comes}
use Rattle.rules.proofs.SavedStaysRight.{right_legal, stays_legal}
use Rattle.rules.proofs.Refused.{takes_number}
use Rattle.rules.proofs.Bursts.{packets_counted, told_counted, slots_fit}

module _ (b : List ℕ) (size : ℕ) (ok : book_number b ≡ 0) (sized : size_right size ≡ true) where
  -- ---- One packet on a right area

  module _ (saved p reply : List ℕ) (right : saved_right (book_of b) saved ≡ true) (room : 64 ≤ length reply) where
    pub comes :
        let t = takes (book_of b) size (connection_in (length (book_of b)) saved) p in
        packet_call b size saved p reply
        ≡ record { told = t.told; saved = store t.connection saved; reply = front t.payload reply }
    comes =
        packet_comes b ok saved _ (record { right = right; shows = refl }) size p reply (no_number size reply sized room)

    pub told_taken : is_taken (packet_call b size saved p reply).told ≡ true
    unfolding is_taken
    told_taken =
        eq-eqb (packet_call b size saved p reply).told.number 0
        (ap (λ (a : Answered). a.told.number) comes ∙ takes_number (book_of b) size _ p)

    reply_long : length (packet_call b size saved p reply).reply ≡ length reply
    reply_long =
        let short = reply_short (book_of b) size _ p (right_book b ok) (right_legal (book_of b) saved right) in
        ap (λ (a : Answered). length a.reply) comes ∙ front_length _ reply (le_trans short room)

    pub next_right : saved_right (book_of b) (packet_call b size saved p reply).saved ≡ true
    unfolding call answered
    next_right = stays_legal b saved ok right (packet size p reply)

  -- ---- The packets of a burst, one after the other

  -- the first, and that it leaves its 64 octets whole
  pub first_slot : (saved p reply : List ℕ) → saved_right (book_of b) saved ≡ true → slot ≤ length reply
      → length (packet_call b size saved p (take slot reply)).reply ≡ slot
  first_slot saved p reply right room =
      let whole = length-take-le slot reply room in
      reply_long saved p (take slot reply) right (omega arith) ∙ whole

  pub each_taken : (ps : List (List ℕ)) (saved reply : List ℕ) → saved_right (book_of b) saved ≡ true
      → slot * length ps ≤ length reply → each_of is_taken (successive b size saved ps reply).told ≡ true
  unfolding each_of successive and_then
  each_taken [] saved reply right room = refl
  each_taken (p ∷ ps) saved reply right room =
      let whole = length-take-le slot reply (omega arith) in
      let less = length-drop slot reply in
      let a = packet_call b size saved p (take slot reply) in
      and_both (is_taken a.told) _ (told_taken saved p (take slot reply) right (omega arith))
      (each_taken ps a.saved (drop slot reply) (next_right saved p (take slot reply) right (omega arith)) (omega arith))

  pub each_answer : (ps : List (List ℕ)) (saved reply : List ℕ) → saved_right (book_of b) saved ≡ true
      → slot * length ps ≤ length reply
      → let all = successive b size saved ps reply in
      answers b saved (packet_calls size ps reply) ≡ slot_answers all.told all.reply
  unfolding answers packet_calls slot_answers successive and_then call answered
  each_answer [] saved reply right room = refl
  each_answer (p ∷ ps) saved reply right room =
      let whole = length-take-le slot reply (omega arith) in
      let less = length-drop slot reply in
      let a = packet_call b size saved p (take slot reply) in
      let rest = successive b size a.saved ps (drop slot reply) in
      let long = first_slot saved p reply right (omega arith) in
      let next = next_right saved p (take slot reply) right (omega arith) in
      let more = each_answer ps a.saved (drop slot reply) next (omega arith) in
      ap₂ (λ (l : List ℕ) (r : List Answer). told a.told l ∷ r) (sym (take_at a.reply rest.reply slot long))
      (more ∙ ap (slot_answers rest.told) (sym (drop_at a.reply rest.reply slot long)))

  pub each_behind : (ps : List (List ℕ)) (saved reply : List ℕ) → saved_right (book_of b) saved ≡ true
      → slot * length ps ≤ length reply
      → drop (slot * length ps) (successive b size saved ps reply).reply ≡ drop (slot * length ps) reply
  unfolding successive and_then
  each_behind [] saved reply right room = refl
  each_behind (p ∷ ps) saved reply right room =
      let whole = length-take-le slot reply (omega arith) in
      let less = length-drop slot reply in
      let a = packet_call b size saved p (take slot reply) in
      let rest = successive b size a.saved ps (drop slot reply) in
      let long = first_slot saved p reply right (omega arith) in
      let next = next_right saved p (take slot reply) right (omega arith) in
      let more = each_behind ps a.saved (drop slot reply) next (omega arith) in
      let count : slot * length (p ∷ ps) ≡ slot + slot * length ps = omega arith in
      ap (λ (n : ℕ). drop n (a.reply ++ rest.reply)) count
      ∙ sym (drop-drop (slot * length ps) slot (a.reply ++ rest.reply))
      ∙ ap (drop (slot * length ps)) (drop_at a.reply rest.reply slot long)
      ∙ more
      ∙ drop-drop (slot * length ps) slot reply
      ∙ ap (λ (n : ℕ). drop n reply) (sym count)

pub each_after : (b : List ℕ) (size : ℕ) (ps : List (List ℕ)) (saved reply : List ℕ)
    → after b saved (packet_calls size ps reply) ≡ (successive b size saved ps reply).saved
unfolding after packet_calls successive and_then call answered
each_after b size [] saved reply = refl
each_after b size (p ∷ ps) saved reply = each_after b size ps _ (drop slot reply)

-- ---- A burst

pub one_by_one : (b : List ℕ) (size : ℕ) (saved octets lengths reply : List ℕ) → burst_refusal b size saved lengths reply ≡ 0
    → OneByOne b size saved octets lengths reply (burst_call b size saved octets lengths reply)
unfolding burst_call burst_taken
one_by_one b size saved octets lengths reply e =
    let met = burst_given b size saved lengths reply e in
    let ps = packets_in octets lengths in
    let fits = slots_fit octets lengths reply met.few met.room in
    let all = successive b size saved ps reply in
    let many = packets_counted octets lengths in
    rw (eq-eqb (burst_refusal b size saved lengths reply) 0 e)
    (record {
      each = all.told;
      count = told_counted b size saved ps reply ∙ many;
      told = refl;
      answers = each_answer b size met.given.book met.sized ps saved reply met.given.right fits;
      saved' = each_after b size ps saved reply;
      unrefused = each_taken b size met.given.book met.sized ps saved reply met.given.right fits;
      behind = rw (← many) (each_behind b size met.given.book met.sized ps saved reply met.given.right fits);
    })
