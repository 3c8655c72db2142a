use Rattle.std.proofs.Common.{◌≡◌, ◌++◌, List, ℕ, [], Ok, refl, ap, sym, ◌∙◌, append-nil, arith}
use Rattle.std.specs.declared.alloc.Global.{Global}
use Rattle.std.specs.declared.vec.Vec.{Vec}
use Rattle.merkle_forest.specs.Codec.{Outcome}
use Rattle.state_theory.specs.Encoded.{after_operation_proof}
use Rattle.state_proofs.specs.Exclusion.{ExclusionParts, exclusion_encoding, after_exclusion}
use Rattle.state_proofs.specs.ExclusionCode.{form_exclusion_of}
use Rattle.state_theory.specs.Laws.Encoded.{Grammar, grammar_of}
use Rattle.state_theory.specs.Laws.Showing.{refuses_none}
use Rattle.auth_store_client.specs.Claims.{Terms, terms}
use Rattle.auth_store_client.proofs.Decoding.{Fields, ends, exclusion_reads}
use Rattle.auth_store_client.proofs.Fitting.{exclusion_fits}
use Rattle.auth_store_client.proofs.reading.read_exclusion.Goals as goal

pub returns-then-is_empty : goal.returns-then-is_empty
returns-then-is_empty g c =
    let those : Terms = terms g.F.Family.merge_rule g.H.HashFunction.hash_of c.args.width g.H.Digest.FixedSize.SIZE g.F.PendingOf.is_pending
    g.F.PendingOf.pending_encoding (g.K.Read.after tt) (g.V.Read.after tt) g.K.FixedSize.SIZE g.V.FixedSize.SIZE in
    let digest : List ℕ → Outcome = g.H.Digest.Read.after tt in
    let held : List ℕ → Outcome = g.F.PendingOf.pending_after in
    let grammar : Grammar digest held g.F.PendingOf.is_pending g.F.PendingOf.pending_encoding
    g.H.Digest.FixedSize.SIZE = grammar_of
    g.met.H.Digest.Digest.any_bytes g.met.F.PendingOf.pending_again g.met.F.PendingOf.pending_once in
    let after : List ℕ → Outcome = after_exclusion (after_operation_proof digest held c.args.width 122) (g.K.Read.after tt) (g.V.Read.after tt) in
    let proof : ExclusionParts = form_exclusion_of (λ (chunk : Vec ℕ Global). chunk.items) g.K.Write.encoding g.V.Write.encoding
    g.H.Digest.Write.encoding g.F.PendingOf.held c.in-Ok.proof in
    let encoded : List ℕ = exclusion_encoding g.F.PendingOf.pending_encoding proof in
    let none : c.read_cfg.new.cursor ≡ [] = c.if-is_empty.ensures.0 refl in
    let is : c.args.bytes.now ≡ encoded ++ [] =
    sym c.new-cursor.ensures ∙ c.in-Ok.ensures.read.1 ∙ ap (λ rest. encoded ++ rest) none in
    let read : after (encoded ++ []) ≡ Ok c.read_cfg.new.cursor = ap after (sym is ∙ sym c.new-cursor.ensures) ∙ c.in-Ok.ensures.read.0 in (
      exclusion_fits those g.H.Digest.Write.encoding g.H.Digest.Write.is_value g.met.H.Digest.FixedSize.sized
          g.F.PendingOf.held g.F.Pending.Write.is_value g.met.F.PendingOf.pending_value digest held grammar
          g.K.Write.encoding g.V.Write.encoding g.K.Write.is_value g.V.Write.is_value (g.K.Read.after tt) (g.V.Read.after tt)
          (λ k is. (g.met.K.FixedSize.sized k is, λ rest. g.met.K.Read.read_again tt k rest is (g.met.K.FixedKey.within k)))
          (λ v is. (g.met.V.FixedSize.sized v is, λ rest. g.met.V.Read.read_again tt v rest is (g.met.V.FixedValue.within v)))
          (λ (chunk : Vec ℕ Global). chunk.items) c.in-Ok.proof [] c.read_cfg.new.cursor c.in-Ok.ensures.value c.in-Ok.ensures.chunk read,
      is ∙ append-nil encoded,
    )

pub returns-else-is_empty : goal.returns-else-is_empty
returns-else-is_empty g c proof fits is =
    let those : Terms = terms g.F.Family.merge_rule g.H.HashFunction.hash_of c.args.width g.H.Digest.FixedSize.SIZE g.F.PendingOf.is_pending
    g.F.PendingOf.pending_encoding (g.K.Read.after tt) (g.V.Read.after tt) g.K.FixedSize.SIZE g.V.FixedSize.SIZE in
    let digest : List ℕ → Outcome = g.H.Digest.Read.after tt in
    let held : List ℕ → Outcome = g.F.PendingOf.pending_after in
    let grammar : Grammar digest held g.F.PendingOf.is_pending g.F.PendingOf.pending_encoding
    g.H.Digest.FixedSize.SIZE = grammar_of
    g.met.H.Digest.Digest.any_bytes g.met.F.PendingOf.pending_again g.met.F.PendingOf.pending_once in
    let after : List ℕ → Outcome = after_exclusion (after_operation_proof digest held c.args.width 122) (g.K.Read.after tt) (g.V.Read.after tt) in
    let fields : Fields those (g.K.Read.after tt) (g.V.Read.after tt) = record {
      key_again = λ k rest is. is.1 rest;
      value_again = λ v rest is. is.1 rest;
      key_sized = λ k is. is.0;
      value_sized = λ v is. is.0;
    } in
    let read : after c.args.bytes.now ≡ Ok [] =
    ends after c.args.bytes.now (exclusion_encoding g.F.PendingOf.pending_encoding proof) is
    (exclusion_reads those digest held (g.K.Read.after tt) (g.V.Read.after tt) (omega arith) grammar fields proof [] fits) in
    let none : c.read_cfg.new.cursor ≡ [] = cc (c.in-Ok.ensures.read.0, c.new-cursor.ensures, read) in
    absurd (let t = c.if-is_empty.ensures.1 none in cc)

pub returns-in_ok-unread-in-Err : goal.returns-in_ok-unread-in-Err
returns-in_ok-unread-in-Err g c proof fits is =
    let those : Terms = terms g.F.Family.merge_rule g.H.HashFunction.hash_of c.args.width g.H.Digest.FixedSize.SIZE g.F.PendingOf.is_pending
    g.F.PendingOf.pending_encoding (g.K.Read.after tt) (g.V.Read.after tt) g.K.FixedSize.SIZE g.V.FixedSize.SIZE in
    let digest : List ℕ → Outcome = g.H.Digest.Read.after tt in
    let held : List ℕ → Outcome = g.F.PendingOf.pending_after in
    let grammar : Grammar digest held g.F.PendingOf.is_pending g.F.PendingOf.pending_encoding
    g.H.Digest.FixedSize.SIZE = grammar_of
    g.met.H.Digest.Digest.any_bytes g.met.F.PendingOf.pending_again g.met.F.PendingOf.pending_once in
    let after : List ℕ → Outcome = after_exclusion (after_operation_proof digest held c.args.width 122) (g.K.Read.after tt) (g.V.Read.after tt) in
    let fields : Fields those (g.K.Read.after tt) (g.V.Read.after tt) = record {
      key_again = λ k rest is. is.1 rest;
      value_again = λ v rest is. is.1 rest;
      key_sized = λ k is. is.0;
      value_sized = λ v is. is.0;
    } in
    let read : after c.args.bytes.now ≡ Ok [] =
    ends after c.args.bytes.now (exclusion_encoding g.F.PendingOf.pending_encoding proof) is
    (exclusion_reads those digest held (g.K.Read.after tt) (g.V.Read.after tt) (omega arith) grammar fields proof [] fits) in
    (c.in_ok-unread-in-Err.ensures).ok (refuses_none _ c.in-Err.e _ [] (ap after c.new-cursor.ensures ∙ read) c.in-Err.ensures.read)
