use Rattle.std.proofs.Common.{refl}
use Rattle.auth_store_parts.specs.Map.{key_order}
use Rattle.auth_store_parts.specs.Laws.Entries.{bytes_eq-cmp}
use Rattle.auth_store_parts.proofs.history.chain.is_same_key.Goals as goal

pub returns : goal.returns
returns g c =
    let encoding = g.K.Write.encoding in
    bytes_eq-cmp encoding (λ k l. key_order (encoding k) (encoding l)) (λ k l. refl) c.args.key.now c.args.other.now _ _
    c.compare.result c.is_eq.result refl refl c.compare.ensures c.is_eq.ensures
