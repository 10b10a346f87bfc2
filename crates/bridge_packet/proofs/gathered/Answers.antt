-- `gathered` meets its contract: the room is lent and comes back before the records.
use mathlib.Core.Path.{ap, ◌∙◌}
use mathlib.Core.List.{List}
use Prim.Native.Nat.{ℕ}
use borrow.Author.Rules.{rules}
use Rattle.rules.specs.Saved.{link_of}
use Rattle.bridge_packet.specs.Taken.{with_link, gathered_area}
use Rattle.bridge_packet.proofs.LinkBack.{long_by_link, link_back}
use Rattle.bridge_packet.proofs.gathered.Goals as goal

pub slice_bounds-gather-end : goal.slice_bounds-gather-end
slice_bounds-gather-end c =
    long_by_link c.args.saved.now c.requires.long

pub gather-requires : goal.gather-requires
unfolding link_of
gather-requires c =
    search rules

pub returns : goal.returns
unfolding gathered_area link_of
returns c =
    record {
      next = c.gather.ensures.next;
      saved =
          link_back c.args.saved.now _ ∙ ap (λ (x : List ℕ). with_link x c.args.saved.now) c.gather.ensures.room;
    }
