use Rattle.std.proofs.Common.{◌≤◌, ◌/◌, ◌*◌, ◌∙◌, ℕ, List, ap, length, subst, sym, arith}
use Rattle.state_current.specs.Settled.{IsGreatestSettled}
use Rattle.state_ops.specs.Operation.{Operation}
use Rattle.state_theory.specs.Canonical.{Setting}
use Rattle.auth_store_states.specs.Laws.Widths.{width_is_whole}
use Rattle.auth_store_log.specs.Records.{Format, format_of}
use Rattle.auth_store_ledger.specs.History.{history_of, last_floor, log_of}
use Rattle.auth_store_ledger.specs.Store.{LedgerState, grafting_height, setting_of_width, state_of_log}
use Rattle.auth_store_ledger.specs.Laws.Places.{end_behind}
use Rattle.auth_store_ledger.proofs.Seen.{inside}
use Rattle.auth_store_ledger.proofs.Pruning.{clear_before, found_settled, kept_pruned}
use Rattle.auth_store_ledger.proofs.ledger.Ledger.prune.Goals as goal

pub prune-requires : goal.prune-requires
prune-requires g c =
    let key_size : ℕ = g.K.FixedSize.SIZE in
    let value_size : ℕ = g.V.FixedSize.SIZE in
    let setting : Setting = setting_of_width g.F.Family.merge_rule g.H.HashFunction.hash_of g.row.N in
    let format : Format = format_of (g.K.Read.after tt) (g.V.Read.after tt) key_size value_size in
    let there : List Operation = c.requires.0 in
    let at = inside setting format there c.self.inside.places c.self.inside.commits c.self.inside.current c.args.self.now c.self.view_is c.requires.1 in
    let low : c.new.result ≤ last_floor there = omega (arith, ap last_floor at.keeps.whole, c.requires.2, c.new.ensures) in (
      omega arith,
      (
        omega (arith, low, end_behind there at.keeps.whole, at.keeps.current.leaves),
        clear_before g.row.N there c.self.inside.current.bits c.new.result at.keeps.whole at.keeps.current.stands.bits low,
      ),
    )

pub returns-clause-of : goal.returns-clause-of
returns-clause-of g c log of =
    let key_size : ℕ = g.K.FixedSize.SIZE in
    let value_size : ℕ = g.V.FixedSize.SIZE in
    let setting : Setting = setting_of_width g.F.Family.merge_rule g.H.HashFunction.hash_of g.row.N in
    let format : Format = format_of (g.K.Read.after tt) (g.V.Read.after tt) key_size value_size in
    let there : List Operation = c.requires.0 in
    let at = inside setting format there c.self.inside.places c.self.inside.commits c.self.inside.current c.args.self.now c.self.view_is c.requires.1 in
    let low : c.new.result ≤ last_floor there = omega (arith, ap last_floor at.keeps.whole, c.requires.2, c.new.ensures) in
    let rule = g.F.Family.merge_rule in
    let height : ℕ = grafting_height g.row.N in
    let here = inside setting format log c.self.inside.places c.self.inside.commits c.self.inside.current c.args.self.now c.self.view_is of in
    let keeps = here.keeps in
    let behind : c.new.result ≤ last_floor log = omega (arith, low, at.keeps.current.stands.floor, keeps.current.stands.floor) in
    let whole = width_is_whole g.row.N c.self.invariant in
    let found = c.in-Ok.ensures.pruned height whole.0 in
    let stands = c.in-Ok.ensures.stands height (state_of_log key_size value_size log) keeps.current.stands in (
      record {
        keeps = record {
          states = keeps.states;
          whole = keeps.whole;
          commits = keeps.commits;
          few = keeps.few;
          current = kept_pruned setting key_size value_size log c.self.inside.current c.prune.new.self c.new.result keeps.current found.to behind
              stands;
        };
        written = here.written;
        places = here.places;
      },
      subst (λ (n : ℕ). IsGreatestSettled rule height (length (log_of (history_of log))) c.args.self.now.kept.bits.pruned
          (c.args.location / (8 * g.row.N)) n) (sym c.pruned_chunks.ensures.pruned)
          (subst (λ (n : ℕ). IsGreatestSettled rule height (length (log_of (history_of log))) n (c.args.location / (8 * g.row.N))
          c.prune.new.self.bits.pruned) (ap (λ (s : LedgerState). s.kept.bits.pruned) c.self.view_is)
          (found_settled rule height c.self.inside.current.operations.leaves (length (log_of (history_of log)))
          c.self.inside.current.bits.pruned (c.new.result / (8 * g.row.N)) (c.args.location / (8 * g.row.N)) c.prune.new.self.bits.pruned
          (keeps.current.leaves ∙ ap length keeps.whole) (ap (λ (n : ℕ). n / (8 * g.row.N)) c.new.ensures) found)),
    )
