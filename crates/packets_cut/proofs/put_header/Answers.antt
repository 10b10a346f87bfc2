-- `put_header` meets its contract: its tests are those of `header`, octet 0 is the same sum in another order, and stores in a row
-- are one write (`patch_sets`).
use Rattle.std.proofs.Common.{◌≡◌, ℕ, ◌+◌, ◌*◌, ◌≤◌, List, [], ◌∷◌, length, ap, ◌∙◌, arith}
use Rattle.std.proofs.Math.Seq.{sets}
use Rattle.std.proofs.lemmas.Bool.Decides.{nat_tests}
use Rattle.rules.specs.declared.Header.{Header}
use Rattle.rules.specs.Cutting.{avdtp, first_octet, header}
use Rattle.rules.proofs.Pieces.{header_of}
use Rattle.rules.proofs.ReadsBack.{header_length}
use Rattle.octets.specs.Patch.{patch}
use Rattle.octets.proofs.Patches.{patch_sets}
use Rattle.packets_cut.proofs.put_header.Goals as goal

-- the header's octets, stored one behind the other
stored : (h : Header) (p : List ℕ) (total k : ℕ) (area octets : List ℕ) → header_of avdtp total k ≤ length area
    → octets ≡ header (record { header = h; payload = p }) total k
    → sets area 0 octets ≡ patch 0 (header (record { header = h; payload = p }) total k) area
stored h p total k area octets fits e =
    patch_sets 0 octets area (omega (arith, ap length e, header_length (record { header = h; payload = p }) total k))
    ∙ ap (λ (l : List ℕ). patch 0 l area) e

pub returns-then-index-total : goal.returns-then-index-total
unfolding header first_octet
returns-then-index-total c =
    let single = c.args.header.label * 16 + c.args.header.mtype in
    let octets = (single + 8) ∷ [] in
    λ p.
    stored c.args.header p c.args.total c.args.index c.args.area.now octets c.requires.header_fits (grind (arith, nat_tests))

pub returns-else-index-total : goal.returns-else-index-total
unfolding header first_octet
returns-else-index-total c =
    let single = c.args.header.label * 16 + c.args.header.mtype in
    let octets = (single + 12) ∷ [] in
    λ p.
    stored c.args.header p c.args.total c.args.index c.args.area.now octets c.requires.header_fits (grind (arith, nat_tests))

pub returns-then-total-eq1 : goal.returns-then-total-eq1
unfolding header first_octet
returns-then-total-eq1 c =
    let single = c.args.header.label * 16 + c.args.header.mtype in
    let octets = single ∷ c.args.header.signal ∷ [] in
    λ p.
    stored c.args.header p c.args.total c.args.index c.args.area.now octets c.requires.header_fits (grind (arith, nat_tests))

pub returns-else-total-eq1 : goal.returns-else-total-eq1
unfolding header first_octet
returns-else-total-eq1 c =
    let single = c.args.header.label * 16 + c.args.header.mtype in
    let octets = (single + 4) ∷ c.args.total ∷ c.args.header.signal ∷ [] in
    λ p.
    stored c.args.header p c.args.total c.args.index c.args.area.now octets c.requires.header_fits (grind (arith, nat_tests))
