use Rattle.std.proofs.Common.{◌∙◌, ap, [], ◌∷◌}
use Rattle.std.proofs.lemmas.Result.{on_ok_weaker}
use Rattle.auth_store_parts.specs.Map.{Map, state_of}
use Rattle.auth_store_index.specs.Near.{with_kept}
use Rattle.auth_store_index.specs.Sources.{source_value, value_there}
use Rattle.auth_store_index.proofs.near.add_before.Goals as goal

pub returns-in-Some-clause-near : goal.returns-in-Some-clause-near
returns-in-Some-clause-near g c =
    on_ok_weaker c.add_kept.result
    (λ added log. let key = g.K.Write.encoding in
    let old : Map = state_of key (value_there log) c.args.index.now.entries in
    let found = c.in-Some.ensures (value_there log) in
    added log old found.1
    ∙ ap (with_kept old (state_of key (value_there log) c.args.gone.now.entries)
    (state_of key (source_value g.V.Write.encoding log) c.args.near.now.entries)) found.0)
    c.add_kept.ensures.near

pub returns-in-Some-clause-own : goal.returns-in-Some-clause-own
returns-in-Some-clause-own g c =
    on_ok_weaker c.add_kept.result
    (λ kept all. kept (state_of g.K.Write.encoding (λ place. place ∷ []) c.args.index.now.entries) all
    (c.in-Some.ensures (λ place. place ∷ [])).1)
    c.add_kept.ensures.own
