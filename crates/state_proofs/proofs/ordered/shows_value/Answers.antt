use Rattle.std.proofs.Common.{◌≡◌, ◌++◌, List, ℕ, [], Ok, refl, ap, sym, ◌∙◌, append-nil, arith}
use Rattle.std.specs.declared.alloc.Global.{Global}
use Rattle.std.specs.declared.vec.Vec.{Vec}
use Rattle.merkle_forest.specs.Codec.{Outcome, ◌>>=◌}
use Rattle.merkle_forest.specs.Laws.Lists.{bind_ok}
use Rattle.state_ops.specs.Operation.{ordered, update, fixed_encoding}
use Rattle.state_theory.specs.Encoded.{Format, format_of, ShowsUpdate, operation_proof_encoding, after_operation_proof, after_key_value_proof}
use Rattle.state_theory.specs.Laws.Encoded.{Grammar, grammar_of}
use Rattle.state_proofs.specs.Laws.Reading.{read_operation_fits}
use Rattle.state_ops.specs.Reading.{IsField}
use Rattle.state_theory.specs.Laws.Showing.{shows_read, shows_exactly, refuses_none, refused_shows, refused_says_no, said_on_yes, answered_alike}
use Rattle.state_proofs.specs.ProofsCode.{parts_of}
use Rattle.state_theory.specs.Verified.{Parts, Verifies}
use Rattle.state_proofs.proofs.ordered.shows_value.Goals as goal

pub returns-in-Err-clause-exact : goal.returns-in-Err-clause-exact
returns-in-Err-clause-exact g c =
    let format : Format = format_of g.F.Family.merge_rule g.H.HashFunction.hash_of c.args.width
    g.H.Digest.FixedSize.SIZE g.F.PendingOf.is_pending g.F.PendingOf.pending_encoding
    (IsField (g.K.Read.after tt) g.K.FixedSize.SIZE) in
    let update_of : List ℕ → List ℕ = λ next_key.
    fixed_encoding g.K.FixedSize.SIZE g.V.FixedSize.SIZE
    (update (ordered (g.K.Write.encoding c.args.key.now) (g.V.Write.encoding c.args.value.now) next_key)) in
    let grammar : Grammar (g.H.Digest.Read.after tt) g.F.PendingOf.pending_after g.F.PendingOf.is_pending
    g.F.PendingOf.pending_encoding g.H.Digest.FixedSize.SIZE = grammar_of
    g.met.H.Digest.Digest.any_bytes g.met.F.PendingOf.pending_again g.met.F.PendingOf.pending_once in
    refused_shows (ShowsUpdate format (g.H.Digest.Write.encoding c.args.root.now) update_of c.args.bytes.now)
    c.in-Err.e c.refused.result c.refused.ensures.ok (λ it.
    let read = shows_read format (omega arith) (g.H.Digest.Read.after tt) g.F.PendingOf.pending_after
    (g.K.Read.after tt) grammar
    (g.H.Digest.Write.encoding c.args.root.now) update_of c.args.bytes.now (λ k is. ap (g.K.Read.after tt) (sym (append-nil k)) ∙ is.1 []) it in
    refuses_none _ c.in-Err.e _ []
    (ap (after_key_value_proof (g.H.Digest.Read.after tt) g.F.PendingOf.pending_after
    (g.K.Read.after tt) c.args.width 122) c.new-cursor.ensures ∙ read) c.in-Err.ensures.read)

pub returns-then-not-is_empty-clause-exact : goal.returns-then-not-is_empty-clause-exact
returns-then-not-is_empty-clause-exact g c =
    let format : Format = format_of g.F.Family.merge_rule g.H.HashFunction.hash_of c.args.width
    g.H.Digest.FixedSize.SIZE g.F.PendingOf.is_pending g.F.PendingOf.pending_encoding
    (IsField (g.K.Read.after tt) g.K.FixedSize.SIZE) in
    let update_of : List ℕ → List ℕ = λ next_key.
    fixed_encoding g.K.FixedSize.SIZE g.V.FixedSize.SIZE
    (update (ordered (g.K.Write.encoding c.args.key.now) (g.V.Write.encoding c.args.value.now) next_key)) in
    let grammar : Grammar (g.H.Digest.Read.after tt) g.F.PendingOf.pending_after g.F.PendingOf.is_pending
    g.F.PendingOf.pending_encoding g.H.Digest.FixedSize.SIZE = grammar_of
    g.met.H.Digest.Digest.any_bytes g.met.F.PendingOf.pending_again g.met.F.PendingOf.pending_once in (
      λ e. absurd cc,
      λ it.
          let read = shows_read format (omega arith) (g.H.Digest.Read.after tt) g.F.PendingOf.pending_after
          (g.K.Read.after tt) grammar
          (g.H.Digest.Write.encoding c.args.root.now) update_of c.args.bytes.now (λ k is. ap (g.K.Read.after tt) (sym (append-nil k)) ∙ is.1 []) it in
          let none : c.read_cfg.new.cursor ≡ [] = cc (c.in-Ok.ensures.read.0, c.new-cursor.ensures, read) in
          c.if-not-is_empty.ensures.1 none,
    )

pub returns-else-not-is_empty-clause-exact : goal.returns-else-not-is_empty-clause-exact
returns-else-not-is_empty-clause-exact g c =
    let format : Format = format_of g.F.Family.merge_rule g.H.HashFunction.hash_of c.args.width
    g.H.Digest.FixedSize.SIZE g.F.PendingOf.is_pending g.F.PendingOf.pending_encoding
    (IsField (g.K.Read.after tt) g.K.FixedSize.SIZE) in
    let update_of : List ℕ → List ℕ = λ next_key.
    fixed_encoding g.K.FixedSize.SIZE g.V.FixedSize.SIZE
    (update (ordered (g.K.Write.encoding c.args.key.now) (g.V.Write.encoding c.args.value.now) next_key)) in
    let digest : List ℕ → Outcome = g.H.Digest.Read.after tt in
    let held : List ℕ → Outcome = g.F.PendingOf.pending_after in
    let key : List ℕ → Outcome = g.K.Read.after tt in
    let grammar : Grammar digest held g.F.PendingOf.is_pending g.F.PendingOf.pending_encoding
    g.H.Digest.FixedSize.SIZE = grammar_of
    g.met.H.Digest.Digest.any_bytes g.met.F.PendingOf.pending_again g.met.F.PendingOf.pending_once in
    let root : List ℕ = g.H.Digest.Write.encoding c.args.root.now in
    let proof : Parts = parts_of g.H.Digest.Write.encoding g.F.PendingOf.held c.in-Ok.proof.proof in
    let next : List ℕ = g.K.Write.encoding c.in-Ok.proof.next_key in
    let encoded : List ℕ = operation_proof_encoding g.F.PendingOf.pending_encoding proof ++ next in
    let none : c.read_cfg.new.cursor ≡ [] = c.if-not-is_empty.ensures.0 refl in
    let is : c.args.bytes.now ≡ encoded = sym c.new-cursor.ensures ∙ c.in-Ok.ensures.read.1
    ∙ ap (λ rest. encoded ++ rest) none ∙ append-nil encoded in
    let whole : (after_operation_proof digest held c.args.width 122 encoded >>= key) ≡ Ok c.read_cfg.new.cursor =
    ap (λ bytes. after_operation_proof digest held c.args.width 122 bytes >>= key) (sym is ∙ sym c.new-cursor.ensures)
    ∙ c.in-Ok.ensures.read.0 in
    let front = bind_ok (after_operation_proof digest held c.args.width 122 encoded) key c.read_cfg.new.cursor whole in
    let fits = read_operation_fits g.H.Digest.Write.encoding g.H.Digest.Write.is_value g.H.Digest.FixedSize.SIZE
    g.met.H.Digest.FixedSize.sized
    g.F.PendingOf.held g.F.Pending.Write.is_value g.F.PendingOf.is_pending g.met.F.PendingOf.pending_value digest held
    g.F.PendingOf.pending_encoding grammar
    (λ (chunk : Vec ℕ Global). chunk.items) c.args.width 122 c.in-Ok.proof.proof next front.0 c.in-Ok.ensures.value.0 c.in-Ok.ensures.chunk front.1 in
    let is_key : IsField key g.K.FixedSize.SIZE next = (
      g.met.K.FixedSize.sized c.in-Ok.proof.next_key c.in-Ok.ensures.value.1,
      λ rest. g.met.K.Read.read_again tt c.in-Ok.proof.next_key rest c.in-Ok.ensures.value.1 (g.met.K.FixedKey.within c.in-Ok.proof.next_key),
    ) in
    answered_alike (Verifies g.F.Family.merge_rule g.H.HashFunction.hash_of root proof (update_of next))
    (ShowsUpdate format root update_of c.args.bytes.now)
    c.verify.result c.verify.ensures.exact
    (shows_exactly format (omega arith) digest held key grammar root update_of c.args.bytes.now proof next is
    fits is_key)

pub returns-in-Err-clause-fields : goal.returns-in-Err-clause-fields
returns-in-Err-clause-fields g c = refused_says_no _ c.in-Err.e c.refused.result c.refused.ensures.ok

pub returns-then-not-is_empty-clause-fields : goal.returns-then-not-is_empty-clause-fields
returns-then-not-is_empty-clause-fields g c = λ e. absurd cc

pub returns-else-not-is_empty-clause-fields : goal.returns-else-not-is_empty-clause-fields
returns-else-not-is_empty-clause-fields g c =
    said_on_yes (IsField (g.K.Read.after tt) g.K.FixedSize.SIZE (g.K.Write.encoding c.args.key.now))
    (IsField (g.V.Read.after tt) g.V.FixedSize.SIZE (g.V.Write.encoding c.args.value.now))
    c.verify.result c.verify.ensures.key c.verify.ensures.value
