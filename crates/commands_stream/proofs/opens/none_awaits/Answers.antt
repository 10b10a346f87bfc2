-- `none_awaits` meets its contract: after i turns as many await their channel as among the records behind the first i.
use Rattle.std.proofs.Common.{◌≡◌, ℕ, suc, ◌+◌, ◌-◌, ◌*◌, true, false, eqb, List, drop, if◌then◌else◌, sym, ap, ◌∙◌, zero-add}
use Rattle.std.proofs.Common.{arith, drop-drop, rules, ne_eqb}
use Rattle.rules.specs.Endpoints.{is_awaited, awaiting}
use Rattle.rules.specs.Saved.{record_room, endpoint_in, ends_in, head_in, record_at}
use Rattle.rules.specs.declared.Head.{Head}
use Rattle.commands_stream.proofs.opens.none_awaits.Goals as goal

-- the records from the place of one on, of which there are more than n
module _ (n left : ℕ) (l : List ℕ) (i : ℕ) (e : left ≡ suc n) {h : Head} (got : h ≡ head_in (record_at i l)) where
  await_step : awaiting (ends_in left (drop (i * record_room) l))
      ≡ (if is_awaited h.channel then 1 else 0) + awaiting (ends_in n (drop ((i + 1) * record_room) l))
  unfolding awaiting ends_in endpoint_in
  await_step =
      let next : i * record_room + record_room ≡ (i + 1) * record_room = omega arith in
      ap (λ (k : ℕ). awaiting (ends_in k (drop (i * record_room) l))) e
      ∙ rw got
      (ap (λ (x : List ℕ). (if is_awaited (head_in (record_at i l)).channel then 1 else 0) + awaiting (ends_in n x))
      (drop-drop record_room (i * record_room) l ∙ ap (λ (k : ℕ). drop k l) next))

  await_here : is_awaited h.channel ≡ true → false ≡ eqb (awaiting (ends_in left (drop (i * record_room) l))) 0
  await_here h =
      let s = rw h at await_step in
      sym (ne_eqb (awaiting (ends_in left (drop (i * record_room) l))) 0 (λ z. omega arith))

  await_later : is_awaited h.channel ≡ false
      → awaiting (ends_in left (drop (i * record_room) l)) ≡ awaiting (ends_in n (drop ((i + 1) * record_room) l))
  await_later h = await_step ∙ rw h (zero-add _)

none_left : (n left : ℕ) (l : List ℕ) → left ≡ 0 → n ≡ awaiting (ends_in left l) → true ≡ eqb n 0
unfolding awaiting ends_in
none_left n left l e h = rw (h, e)

pub returns-then-eq : goal.returns-then-eq
unfolding is_awaited
returns-then-eq c =
    await_here (c.args.count - (c.loop-i.i + 1)) (c.args.count - c.loop-i.i) c.args.records.now c.loop-i.i (omega arith)
    c.get.ensures (search rules)
    ∙ ap (λ n. eqb n 0) (sym c.loop-i.invariant)

pub loop-i-preserved : goal.loop-i-preserved
unfolding is_awaited
loop-i-preserved c =
    c.loop-i.invariant
    ∙ await_later (c.args.count - (c.loop-i.i + 1)) (c.args.count - c.loop-i.i) c.args.records.now c.loop-i.i (omega arith)
    c.get.ensures (search rules)

pub returns : goal.returns
returns c =
    none_left _ (c.args.count - c.loop-i.i) _ (omega arith) c.loop-i.invariant
