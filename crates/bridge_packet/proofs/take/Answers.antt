-- `take` meets its contract: each answer of the gathering comes with the message that is complete, or with none.
use Rattle.std.proofs.Common.{rules, ◌≡◌, refl, sym, ◌∙◌}
use mathlib.Core.Bool.{true}
use Rattle.rules.specs.Octets.{octets_in}
use Rattle.rules.specs.Saved.{link_of, gathering_in}
use Rattle.packets_next.specs.Nexts.{next_of}
use Rattle.packets_next.specs.declared.nexts.Next.{Next}
use Rattle.packets_next.specs.declared.nexts.Next.TheVariants.{Single, Complete}
use Rattle.rules.proofs.SavedReads.{octets_known}
use Rattle.octets.proofs.Tails.{behind_whole}
use Rattle.bridge_packet.proofs.Taking.{room_right, nothing_done, single_header, single_serves, single_done, joined_serves}
use Rattle.bridge_packet.proofs.Taking.{joined_done, no_message}
use Rattle.bridge_packet.proofs.take.Goals as goal
use Rattle.bridge_packet.proofs.take.Goals.{After-gathered}

known : (c : After-gathered) → octets_in c.args.saved.now ≡ true
known c = octets_known c.args.saved.now (search rules)

next : (c : After-gathered) (r : Next) → c.gathered.result ≡ r
    → next_of c.args.size (gathering_in (link_of c.args.saved.now)) c.args.packet.now ≡ r
next c r e = sym c.gathered.ensures.next ∙ e

pub gathered-requires : goal.gathered-requires
gathered-requires c =
    room_right c.args.book.octets.now c.args.size c.args.saved.now c.args.packet.now c.args.reply.now
    c.args.book.right c.requires (octets_known c.args.saved.now (search rules))

pub slice_bounds-serve-count : goal.slice_bounds-serve-count
slice_bounds-serve-count c =
    single_header c.args.book.octets.now c.args.size c.args.saved.now c.args.packet.now c.args.reply.now
    c.args.book.right c.requires (known (goal.at.slice_bounds-serve-count c).After-gathered) _
    (next (goal.at.slice_bounds-serve-count c).After-gathered (Single _) c.in-Single.is)

pub slice_bounds-serve-start : goal.slice_bounds-serve-start
slice_bounds-serve-start c =
    single_header c.args.book.octets.now c.args.size c.args.saved.now c.args.packet.now c.args.reply.now
    c.args.book.right c.requires (known (goal.at.slice_bounds-serve-start c).After-gathered) _
    (next (goal.at.slice_bounds-serve-start c).After-gathered (Single _) c.in-Single.is)

pub serve-requires : goal.serve-requires
serve-requires c =
    single_serves c.args.book.octets.now c.args.size c.args.saved.now c.args.packet.now c.args.reply.now
    c.args.book.right c.requires (known (goal.at.serve-requires c).After-gathered) _ _
    c.gathered.ensures.saved _ (behind_whole 2 c.args.packet.now)
    (next (goal.at.serve-requires c).After-gathered (Single _) c.in-Single.is)

pub serve_joined-requires : goal.serve_joined-requires
serve_joined-requires c =
    joined_serves c.args.book.octets.now c.args.size c.args.saved.now c.args.packet.now c.args.reply.now
    c.args.book.right c.requires (known (goal.at.serve_joined-requires c).After-gathered) _ _
    c.gathered.ensures.saved (next (goal.at.serve_joined-requires c).After-gathered (Complete _) c.in-Complete.is)

pub returns-in-Single : goal.returns-in-Single
returns-in-Single c =
    single_done c.args.book.octets.now c.args.size c.args.saved.now c.args.packet.now c.args.reply.now
    c.args.book.right c.requires (known (goal.at.returns-in-Single c).After-gathered) _ _
    c.gathered.ensures.saved _ (behind_whole 2 c.args.packet.now)
    (next (goal.at.returns-in-Single c).After-gathered (Single _) c.in-Single.is) _
    c.serve.ensures

pub returns-in-Complete : goal.returns-in-Complete
returns-in-Complete c =
    joined_done c.args.book.octets.now c.args.size c.args.saved.now c.args.packet.now c.args.reply.now
    c.args.book.right c.requires (known (goal.at.returns-in-Complete c).After-gathered) _ _
    c.gathered.ensures.saved _ (next (goal.at.returns-in-Complete c).After-gathered (Complete _) c.in-Complete.is)
    c.serve_joined.ensures

pub returns-in-Ended : goal.returns-in-Ended
returns-in-Ended c =
    nothing_done c.args.book.octets.now c.args.size c.args.saved.now c.args.packet.now c.args.reply.now
    c.args.book.right c.requires (known (goal.at.returns-in-Ended c).After-gathered) _ _ c.gathered.ensures.saved
    c.nothing.ensures
    (no_message c.args.size (link_of c.args.saved.now) c.args.packet.now _
    (next (goal.at.returns-in-Ended c).After-gathered _ refl) c.in-Ended.is)
