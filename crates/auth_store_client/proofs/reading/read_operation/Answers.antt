use Rattle.std.proofs.Common.{◌≡◌, ◌++◌, List, ℕ, [], Ok, refl, ap, sym, ◌∙◌, append-nil, arith}
use Rattle.std.specs.declared.alloc.Global.{Global}
use Rattle.std.specs.declared.vec.Vec.{Vec}
use Rattle.state_theory.specs.Encoded.{operation_proof_encoding, after_operation_proof}
use Rattle.state_theory.specs.Laws.Encoded.{Grammar, grammar_of}
use Rattle.state_proofs.specs.Laws.Reading.{read_operation_fits}
use Rattle.state_theory.specs.Laws.Showing.{refuses_none}
use Rattle.state_proofs.specs.ProofsCode.{parts_of}
use Rattle.state_theory.specs.Verified.{Parts}
use Rattle.auth_store_client.proofs.Decoding.{ends, operation_reads}
use Rattle.auth_store_client.proofs.reading.read_operation.Goals as goal

pub returns-then-is_empty : goal.returns-then-is_empty
returns-then-is_empty g c =
    let grammar : Grammar (g.D.Read.after tt) g.F.PendingOf.pending_after g.F.PendingOf.is_pending
    g.F.PendingOf.pending_encoding g.D.FixedSize.SIZE = grammar_of
    g.met.D.Digest.any_bytes g.met.F.PendingOf.pending_again g.met.F.PendingOf.pending_once in
    let proof : Parts = parts_of g.D.Write.encoding g.F.PendingOf.held c.in-Ok.proof in
    let encoded : List ℕ = operation_proof_encoding g.F.PendingOf.pending_encoding proof in
    let none : c.read_cfg.new.cursor ≡ [] = c.if-is_empty.ensures.0 refl in
    let is : c.args.bytes.now ≡ encoded ++ [] =
    sym c.new-cursor.ensures ∙ c.in-Ok.ensures.read.1 ∙ ap (λ rest. encoded ++ rest) none in
    let read : after_operation_proof (g.D.Read.after tt) g.F.PendingOf.pending_after c.args.width 122 (encoded ++ []) ≡ Ok c.read_cfg.new.cursor =
    ap (after_operation_proof (g.D.Read.after tt) g.F.PendingOf.pending_after c.args.width 122) (sym is ∙ sym c.new-cursor.ensures)
    ∙ c.in-Ok.ensures.read.0 in (
      read_operation_fits g.D.Write.encoding g.D.Write.is_value g.D.FixedSize.SIZE g.met.D.FixedSize.sized
          g.F.PendingOf.held g.F.Pending.Write.is_value g.F.PendingOf.is_pending g.met.F.PendingOf.pending_value
          (g.D.Read.after tt) g.F.PendingOf.pending_after g.F.PendingOf.pending_encoding grammar
          (λ (chunk : Vec ℕ Global). chunk.items) c.args.width 122 c.in-Ok.proof [] c.read_cfg.new.cursor c.in-Ok.ensures.value c.in-Ok.ensures.chunk read,
      is ∙ append-nil encoded,
    )

pub returns-else-is_empty : goal.returns-else-is_empty
returns-else-is_empty g c proof fits is =
    let grammar : Grammar (g.D.Read.after tt) g.F.PendingOf.pending_after g.F.PendingOf.is_pending
    g.F.PendingOf.pending_encoding g.D.FixedSize.SIZE = grammar_of
    g.met.D.Digest.any_bytes g.met.F.PendingOf.pending_again g.met.F.PendingOf.pending_once in
    let read : after_operation_proof (g.D.Read.after tt) g.F.PendingOf.pending_after c.args.width 122 c.args.bytes.now ≡ Ok [] =
    ends (after_operation_proof (g.D.Read.after tt) g.F.PendingOf.pending_after c.args.width 122) c.args.bytes.now
    (operation_proof_encoding g.F.PendingOf.pending_encoding proof) is
    (operation_reads (g.D.Read.after tt) g.F.PendingOf.pending_after g.F.PendingOf.is_pending g.F.PendingOf.pending_encoding c.args.width
    g.D.FixedSize.SIZE 122 (omega arith) grammar proof [] fits) in
    let none : c.read_cfg.new.cursor ≡ [] = cc (c.in-Ok.ensures.read.0, c.new-cursor.ensures, read) in
    absurd (let t = c.if-is_empty.ensures.1 none in cc)

pub returns-in_ok-unread-in-Err : goal.returns-in_ok-unread-in-Err
returns-in_ok-unread-in-Err g c proof fits is =
    let grammar : Grammar (g.D.Read.after tt) g.F.PendingOf.pending_after g.F.PendingOf.is_pending
    g.F.PendingOf.pending_encoding g.D.FixedSize.SIZE = grammar_of
    g.met.D.Digest.any_bytes g.met.F.PendingOf.pending_again g.met.F.PendingOf.pending_once in
    let read : after_operation_proof (g.D.Read.after tt) g.F.PendingOf.pending_after c.args.width 122 c.args.bytes.now ≡ Ok [] =
    ends (after_operation_proof (g.D.Read.after tt) g.F.PendingOf.pending_after c.args.width 122) c.args.bytes.now
    (operation_proof_encoding g.F.PendingOf.pending_encoding proof) is
    (operation_reads (g.D.Read.after tt) g.F.PendingOf.pending_after g.F.PendingOf.is_pending g.F.PendingOf.pending_encoding c.args.width
    g.D.FixedSize.SIZE 122 (omega arith) grammar proof [] fits) in
    (c.in_ok-unread-in-Err.ensures).ok (refuses_none _ c.in-Err.e _ []
    (ap (after_operation_proof (g.D.Read.after tt) g.F.PendingOf.pending_after c.args.width 122) c.new-cursor.ensures ∙ read) c.in-Err.ensures.read)
