use Rattle.std.proofs.Common.{ℕ, Bool, List, map, sym, ap, subst}
use Rattle.std.specs.List.{AllByRecursion}
use Rattle.std.specs.Prelude.{◌↔◌, IfOk, IsTrue}
use Rattle.state_ops.specs.Operation.{Operation, meaning_of}
use Rattle.state_ops.specs.Reading.{IsField, IsOfFields}
use Rattle.auth_store_client.specs.Claims.{Terms, terms, ClaimsFields, Shows, ShowsRange, ShowsSlice}
use Rattle.auth_store_client.specs.ClaimsCode.{claim_of}
use Rattle.auth_store_client.proofs.Yes.{nothing_said}
use Rattle.auth_store_client.proofs.checking.shows.Goals as goal

pub returns-in-Value-clause-exact : goal.returns-in-Value-clause-exact
returns-in-Value-clause-exact g c =
    let those : Terms = terms g.F.Family.merge_rule g.H.HashFunction.hash_of g.row.N g.H.Digest.FixedSize.SIZE g.F.PendingOf.is_pending
    g.F.PendingOf.pending_encoding (g.K.Read.after tt) (g.V.Read.after tt) g.K.FixedSize.SIZE g.V.FixedSize.SIZE in
    subst (λ claim. IfOk c.shows_value.result (λ said. IsTrue said ↔ Shows those (claim_of g.K.Write.encoding g.V.Write.encoding claim)
    (g.H.Digest.Write.encoding c.args.root.now) c.args.bytes.now)) (sym c.in-Value.is) c.shows_value.ensures.exact

pub returns-in-Absent-clause-exact : goal.returns-in-Absent-clause-exact
returns-in-Absent-clause-exact g c =
    let those : Terms = terms g.F.Family.merge_rule g.H.HashFunction.hash_of g.row.N g.H.Digest.FixedSize.SIZE g.F.PendingOf.is_pending
    g.F.PendingOf.pending_encoding (g.K.Read.after tt) (g.V.Read.after tt) g.K.FixedSize.SIZE g.V.FixedSize.SIZE in
    subst (λ claim. IfOk c.shows_absence.result (λ said. IsTrue said ↔ Shows those (claim_of g.K.Write.encoding g.V.Write.encoding claim)
    (g.H.Digest.Write.encoding c.args.root.now) c.args.bytes.now)) (sym c.in-Absent.is) c.shows_absence.ensures

pub returns-in-Active-clause-exact : goal.returns-in-Active-clause-exact
returns-in-Active-clause-exact g c =
    let those : Terms = terms g.F.Family.merge_rule g.H.HashFunction.hash_of g.row.N g.H.Digest.FixedSize.SIZE g.F.PendingOf.is_pending
    g.F.PendingOf.pending_encoding (g.K.Read.after tt) (g.V.Read.after tt) g.K.FixedSize.SIZE g.V.FixedSize.SIZE in
    subst (λ claim. IfOk c.shows_active.result (λ said. IsTrue said ↔ Shows those (claim_of g.K.Write.encoding g.V.Write.encoding claim)
    (g.H.Digest.Write.encoding c.args.root.now) c.args.bytes.now)) (sym c.in-Active.is) c.shows_active.ensures.exact

pub returns-in-Range-clause-exact : goal.returns-in-Range-clause-exact
returns-in-Range-clause-exact g c =
    let those : Terms = terms g.F.Family.merge_rule g.H.HashFunction.hash_of g.row.N g.H.Digest.FixedSize.SIZE g.F.PendingOf.is_pending
    g.F.PendingOf.pending_encoding (g.K.Read.after tt) (g.V.Read.after tt) g.K.FixedSize.SIZE g.V.FixedSize.SIZE in
    let root : List ℕ = g.H.Digest.Write.encoding c.args.root.now in
    let Said : List Operation → List Bool → Type 0 = λ operations active. IfOk c.shows_range.result (λ said. IsTrue said
    ↔ ShowsRange those root c.in-Range.start operations active c.args.bytes.now) in
    subst (λ claim. IfOk c.shows_range.result (λ said. IsTrue said ↔ Shows those (claim_of g.K.Write.encoding g.V.Write.encoding claim)
    root c.args.bytes.now)) (sym c.in-Range.is)
    (subst (Said (map (meaning_of g.K.Write.encoding g.V.Write.encoding) c.in-Range.operations.items)) c.deref-in-Range.ensures.value
    (subst (λ (operations : List Operation). Said operations c.deref-in-Range.result.now)
    (ap (map (meaning_of g.K.Write.encoding g.V.Write.encoding)) c.deref.ensures.value) c.shows_range.ensures.exact))

pub returns-in-Slice-clause-exact : goal.returns-in-Slice-clause-exact
returns-in-Slice-clause-exact g c =
    let those : Terms = terms g.F.Family.merge_rule g.H.HashFunction.hash_of g.row.N g.H.Digest.FixedSize.SIZE g.F.PendingOf.is_pending
    g.F.PendingOf.pending_encoding (g.K.Read.after tt) (g.V.Read.after tt) g.K.FixedSize.SIZE g.V.FixedSize.SIZE in
    let root : List ℕ = g.H.Digest.Write.encoding c.args.root.now in
    let Said : List Operation → Type 0 = λ operations. IfOk c.shows_slice.result (λ said. IsTrue said
    ↔ ShowsSlice those root c.in-Slice.start operations c.args.bytes.now) in
    subst (λ claim. IfOk c.shows_slice.result (λ said. IsTrue said ↔ Shows those (claim_of g.K.Write.encoding g.V.Write.encoding claim)
    root c.args.bytes.now)) (sym c.in-Slice.is)
    (subst Said (ap (map (meaning_of g.K.Write.encoding g.V.Write.encoding)) c.deref-in-Slice.ensures.value) c.shows_slice.ensures.exact)

pub returns-in-Value-clause-fields : goal.returns-in-Value-clause-fields
returns-in-Value-clause-fields g c =
    let IsKey : List ℕ → Type 0 = IsField (g.K.Read.after tt) g.K.FixedSize.SIZE in
    let IsValue : List ℕ → Type 0 = IsField (g.V.Read.after tt) g.V.FixedSize.SIZE in
    subst (λ claim. IfOk c.shows_value.result (λ said. IsTrue said → ClaimsFields IsKey IsValue (claim_of g.K.Write.encoding g.V.Write.encoding claim)))
    (sym c.in-Value.is) c.shows_value.ensures.fields

pub returns-in-Absent-clause-fields : goal.returns-in-Absent-clause-fields
returns-in-Absent-clause-fields g c =
    let IsKey : List ℕ → Type 0 = IsField (g.K.Read.after tt) g.K.FixedSize.SIZE in
    let IsValue : List ℕ → Type 0 = IsField (g.V.Read.after tt) g.V.FixedSize.SIZE in
    subst (λ claim. IfOk c.shows_absence.result (λ said. IsTrue said → ClaimsFields IsKey IsValue (claim_of g.K.Write.encoding g.V.Write.encoding claim)))
    (sym c.in-Absent.is) (nothing_said c.shows_absence.result)

pub returns-in-Active-clause-fields : goal.returns-in-Active-clause-fields
returns-in-Active-clause-fields g c =
    let IsKey : List ℕ → Type 0 = IsField (g.K.Read.after tt) g.K.FixedSize.SIZE in
    let IsValue : List ℕ → Type 0 = IsField (g.V.Read.after tt) g.V.FixedSize.SIZE in
    subst (λ claim. IfOk c.shows_active.result (λ said. IsTrue said → ClaimsFields IsKey IsValue (claim_of g.K.Write.encoding g.V.Write.encoding claim)))
    (sym c.in-Active.is) c.shows_active.ensures.fields

pub returns-in-Range-clause-fields : goal.returns-in-Range-clause-fields
returns-in-Range-clause-fields g c =
    let IsKey : List ℕ → Type 0 = IsField (g.K.Read.after tt) g.K.FixedSize.SIZE in
    let IsValue : List ℕ → Type 0 = IsField (g.V.Read.after tt) g.V.FixedSize.SIZE in
    subst (λ claim. IfOk c.shows_range.result (λ said. IsTrue said → ClaimsFields IsKey IsValue (claim_of g.K.Write.encoding g.V.Write.encoding claim)))
    (sym c.in-Range.is) (subst (λ (operations : List Operation). IfOk c.shows_range.result (λ said. IsTrue said
    → AllByRecursion (IsOfFields IsKey IsValue) operations)) (ap (map (meaning_of g.K.Write.encoding g.V.Write.encoding)) c.deref.ensures.value)
    c.shows_range.ensures.fields)

pub returns-in-Slice-clause-fields : goal.returns-in-Slice-clause-fields
returns-in-Slice-clause-fields g c =
    let IsKey : List ℕ → Type 0 = IsField (g.K.Read.after tt) g.K.FixedSize.SIZE in
    let IsValue : List ℕ → Type 0 = IsField (g.V.Read.after tt) g.V.FixedSize.SIZE in
    subst (λ claim. IfOk c.shows_slice.result (λ said. IsTrue said → ClaimsFields IsKey IsValue (claim_of g.K.Write.encoding g.V.Write.encoding claim)))
    (sym c.in-Slice.is) (subst (λ (operations : List Operation). IfOk c.shows_slice.result (λ said. IsTrue said
    → AllByRecursion (IsOfFields IsKey IsValue) operations)) (ap (map (meaning_of g.K.Write.encoding g.V.Write.encoding)) c.deref-in-Slice.ensures.value)
    c.shows_slice.ensures.fields)
