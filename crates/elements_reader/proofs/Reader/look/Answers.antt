-- `look` meets its contract: each way out is one of the tests by which `head_end` to `head_whole` tell what stands there.
use Prim.Native.Nat.{ℕ, ◌+◌, ◌-◌, ◌≤◌, ◌<◌}
use mathlib.Core.Path.{◌≡◌, ◌∙◌}
use mathlib.Core.List.{List}
use native.Mathlib.Omega.{arith}
use lib.ListN.{length, get_or}
use Rattle.elements_reader.specs.Standing.{element_at}
use Rattle.elements_reader.specs.declared.Element.TheVariants.{Short, Whole}
use Rattle.elements_reader.proofs.Stands.{head_end, head_lone, head_cut, head_whole}
use Rattle.elements_reader.proofs.Reader.look.Goals as goal

-- by the octets that were read
module _ (l : List ℕ) (at c : ℕ) (there : at < length l) (first : c ≡ get_or l at 0) where
  lone : length l ≤ at + 1 → Short c ≡ element_at l at
  lone h = rw first (head_lone l at there (omega arith))

  module _ (n : ℕ) (second : n ≡ get_or l (at + 1) 0) (more : at + 1 < length l) where
    cut : length l - at - 2 < n → Short c ≡ element_at l at
    cut h = rw first (head_cut l at there (omega arith) (omega arith))

    whole : n ≤ length l - at - 2 → Whole c n (at + 2) ≡ element_at l at
    whole h = rw (first, second) (head_whole l at there (omega arith) (omega arith))

pub returns-in_default : goal.returns-in_default
returns-in_default c =
    head_end c.args.self.list.now c.args.self.at c.in_default.ensures.lookup.3

pub returns-in_default-get : goal.returns-in_default-get
returns-in_default-get c =
    let here = c.in-Some.ensures.lookup.3 in
    lone c.args.self.list.now c.args.self.at c.in-Some.field-0.now here.0 (here.1 0) c.in_default-get.ensures.lookup.3

pub returns-then-length-list : goal.returns-then-length-list
returns-then-length-list c =
    let here = c.in-Some.ensures.lookup.3 in
    let next = c.in-Some-get.ensures.lookup.3 in
    whole c.args.self.list.now c.args.self.at c.in-Some.field-0.now here.0 (here.1 0) c.from-length.result
    (c.from-length.ensures ∙ next.1 0) next.0 c.if-length-list.true

pub returns-else-length-list : goal.returns-else-length-list
returns-else-length-list c =
    let here = c.in-Some.ensures.lookup.3 in
    let next = c.in-Some-get.ensures.lookup.3 in
    cut c.args.self.list.now c.args.self.at c.in-Some.field-0.now here.0 (here.1 0) c.from-length.result
    (c.from-length.ensures ∙ next.1 0) next.0 c.if-length-list.false
