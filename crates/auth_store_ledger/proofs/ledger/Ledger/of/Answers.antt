use Rattle.std.proofs.Common.{List, length, ap, sym, subst, ◌∙◌, arith}
use Rattle.std.proofs.lemmas.List.{length-map}
use Rattle.state_ops.specs.Operation.{Operation, meaning_of}
use Rattle.state_theory.specs.Canonical.{Setting}
use Rattle.auth_store_log.specs.Records.{Format, format_of}
use Rattle.auth_store_ledger.specs.History.{meanings, history_of}
use Rattle.auth_store_ledger.specs.Store.{AreWritten, IsKept, setting_of_width}
use Rattle.auth_store_parts.specs.Places.{places_of}
use Rattle.auth_store_ledger.specs.Laws.Places.{AreStates-history_of}
use Rattle.auth_store_ledger.proofs.ledger.Ledger.of.Goals as goal

pub counted_and_kept-requires : goal.counted_and_kept-requires
counted_and_kept-requires g c =
    let says = meanings g.K.Write.encoding g.V.Write.encoding in (
      omega arith,
      (
        c.requires.width,
        (
          omega (arith, ap length c.deref.ensures.value),
          c.requires.places ∙ ap (λ l. places_of (says l)) (sym c.deref.ensures.value),
        ),
      ),
    )

pub returns-clause-ok : goal.returns-clause-ok
returns-clause-ok g c =
    let says = meanings g.K.Write.encoding g.V.Write.encoding in
    let setting : Setting = setting_of_width g.F.Family.merge_rule g.H.HashFunction.hash_of g.row.N in
    let format : Format = format_of (g.K.Read.after tt) (g.V.Read.after tt) g.K.FixedSize.SIZE g.V.FixedSize.SIZE in
    let log : List Operation = says c.args.log.operations.items in record {
      keeps = record {
        states = AreStates-history_of log;
        whole = c.requires.log;
        commits = c.in_ok-commits.ensures.commits ∙ ap (λ l. length (history_of (says l))) c.deref.ensures.value;
        few = omega (arith, length-map c.args.log.operations.items (meaning_of g.K.Write.encoding g.V.Write.encoding));
        current = subst (λ l. IsKept setting g.K.FixedSize.SIZE g.V.FixedSize.SIZE (says l) c.in_ok-commits.current) c.deref.ensures.value
            c.in_ok-commits.ensures.kept;
      };
      written = subst (λ l. AreWritten format (says l)) c.deref.ensures.value c.in_ok-commits.ensures.written;
      places = c.requires.places;
    }
