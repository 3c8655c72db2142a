use Rattle.std.proofs.Common.{◌≡◌, ◌++◌, List, ℕ, [], Ok, refl, sym, ap, ◌∙◌, append-nil, arith}
use Rattle.merkle_forest.specs.Codec.{Outcome}
use Rattle.state_theory.specs.Laws.Encoded.{Grammar, grammar_of}
use Rattle.state_theory.specs.Laws.Showing.{refuses_none}
use Rattle.auth_store_client.specs.Slices.{SliceParts, slice_encoding, after_slice}
use Rattle.auth_store_client.specs.SlicesCode.{slice_of}
use Rattle.auth_store_client.proofs.Decoding.{ends}
use Rattle.auth_store_client.proofs.Slices.{read_fits, slice_reads}
use Rattle.auth_store_client.proofs.slice.read_slice.Goals as goal

pub returns-then-is_empty : goal.returns-then-is_empty
returns-then-is_empty g c =
    let digest : List ℕ → Outcome = g.D.Read.after tt in
    let held : List ℕ → Outcome = g.F.PendingOf.pending_after in
    let grammar : Grammar digest held g.F.PendingOf.is_pending g.F.PendingOf.pending_encoding g.D.FixedSize.SIZE = grammar_of
    g.met.D.Digest.any_bytes g.met.F.PendingOf.pending_again g.met.F.PendingOf.pending_once in
    let after : List ℕ → Outcome = after_slice digest held 244 in
    let slice : SliceParts = slice_of g.D.Write.encoding g.F.PendingOf.held c.in-Ok.slice in
    let encoded : List ℕ = slice_encoding g.F.PendingOf.pending_encoding slice in
    let none : c.read_parts.new.cursor ≡ [] = c.if-is_empty.ensures.0 refl in
    let is : c.args.bytes.now ≡ encoded ++ [] =
    sym c.new-cursor.ensures ∙ c.in-Ok.ensures.read.1 ∙ ap (λ rest. encoded ++ rest) none in
    let read : after (encoded ++ []) ≡ Ok c.read_parts.new.cursor = ap after (sym is ∙ sym c.new-cursor.ensures) ∙ c.in-Ok.ensures.read.0 in (
      read_fits g.D.Write.encoding g.D.Write.is_value g.D.FixedSize.SIZE g.met.D.FixedSize.sized g.F.PendingOf.held g.F.Pending.Write.is_value
          g.F.PendingOf.is_pending g.met.F.PendingOf.pending_value digest held g.F.PendingOf.pending_encoding 244 (omega arith) grammar c.in-Ok.slice
          [] c.read_parts.new.cursor c.in-Ok.ensures.witness c.in-Ok.ensures.proof read,
      is ∙ append-nil encoded,
    )

pub returns-else-is_empty : goal.returns-else-is_empty
returns-else-is_empty g c slice fits is =
    let digest : List ℕ → Outcome = g.D.Read.after tt in
    let held : List ℕ → Outcome = g.F.PendingOf.pending_after in
    let grammar : Grammar digest held g.F.PendingOf.is_pending g.F.PendingOf.pending_encoding g.D.FixedSize.SIZE = grammar_of
    g.met.D.Digest.any_bytes g.met.F.PendingOf.pending_again g.met.F.PendingOf.pending_once in
    let after : List ℕ → Outcome = after_slice digest held 244 in
    let read : after c.args.bytes.now ≡ Ok [] =
    ends after c.args.bytes.now (slice_encoding g.F.PendingOf.pending_encoding slice) is
    (slice_reads digest held g.F.PendingOf.is_pending g.F.PendingOf.pending_encoding g.D.FixedSize.SIZE 244 (omega arith) grammar slice [] fits) in
    let none : c.read_parts.new.cursor ≡ [] = cc (c.in-Ok.ensures.read.0, c.new-cursor.ensures, read) in
    absurd (let t = c.if-is_empty.ensures.1 none in cc)

pub returns-in_ok-unread-in-Err : goal.returns-in_ok-unread-in-Err
returns-in_ok-unread-in-Err g c slice fits is =
    let digest : List ℕ → Outcome = g.D.Read.after tt in
    let held : List ℕ → Outcome = g.F.PendingOf.pending_after in
    let grammar : Grammar digest held g.F.PendingOf.is_pending g.F.PendingOf.pending_encoding g.D.FixedSize.SIZE = grammar_of
    g.met.D.Digest.any_bytes g.met.F.PendingOf.pending_again g.met.F.PendingOf.pending_once in
    let after : List ℕ → Outcome = after_slice digest held 244 in
    let read : after c.args.bytes.now ≡ Ok [] =
    ends after c.args.bytes.now (slice_encoding g.F.PendingOf.pending_encoding slice) is
    (slice_reads digest held g.F.PendingOf.is_pending g.F.PendingOf.pending_encoding g.D.FixedSize.SIZE 244 (omega arith) grammar slice [] fits) in
    (c.in_ok-unread-in-Err.ensures).ok (refuses_none _ c.in-Err.e _ [] (ap after c.new-cursor.ensures ∙ read) c.in-Err.ensures.read)
