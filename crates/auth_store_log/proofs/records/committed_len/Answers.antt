use Rattle.std.proofs.Common.{◌≡◌, ◌∙◌, ◌≤◌, ◌*◌, ◌/◌, ℕ, List, length, take, sym, ap, arith, subst}
use Rattle.auth_store_log.specs.Records.{Format, format_of, record_size, is_commit_record, pieces, up_to_last}
use Rattle.auth_store_log.proofs.Found.{committed_short, committed_count, count_within}
use Rattle.auth_store_log.proofs.records.committed_len.Goals as goal

pub returns-then-len-size-clause-found : goal.returns-then-len-size-clause-found
returns-then-len-size-clause-found g c =
    let format = format_of (g.K.Read.after tt) (g.V.Read.after tt) g.K.FixedSize.SIZE g.V.FixedSize.SIZE in
    committed_short format c.args.bytes.now (omega (arith, c.if-len-size.true, c.record_len-size.ensures))

-- the count that was found, of records of the format's size
at_size : (format : Format) (bytes : List ℕ) (size count : ℕ) → size ≡ record_size format
    → count ≡ up_to_last (is_commit_record format) (pieces size (length bytes / size) bytes)
    → count ≡ up_to_last (is_commit_record format) (pieces (record_size format) (length bytes / record_size format) bytes)
at_size format bytes size count sized is = is ∙ ap (λ n. up_to_last (is_commit_record format) (pieces n (length bytes / n) bytes)) sized

within : (format : Format) (bytes : List ℕ) (size count : ℕ) → size ≡ record_size format
    → count ≡ up_to_last (is_commit_record format) (pieces size (length bytes / size) bytes) → count * size ≤ length bytes
within format bytes size count sized is =
    subst (λ n. count * n ≤ length bytes) (sym sized) (count_within format bytes count (at_size format bytes size count sized is))

pub overflow_mul-result : goal.overflow_mul-result
overflow_mul-result g c =
    let format = format_of (g.K.Read.after tt) (g.V.Read.after tt) g.K.FixedSize.SIZE g.V.FixedSize.SIZE in
    let low = within format c.args.bytes.now c.record_len-size.result c.in_ok-count.count c.record_len-size.ensures c.in_ok-count.ensures.found in
    omega (arith, low)

pub returns-clause-within : goal.returns-clause-within
returns-clause-within g c =
    let format = format_of (g.K.Read.after tt) (g.V.Read.after tt) g.K.FixedSize.SIZE g.V.FixedSize.SIZE in
    within format c.args.bytes.now c.record_len-size.result c.in_ok-count.count c.record_len-size.ensures c.in_ok-count.ensures.found

pub returns-clause-found : goal.returns-clause-found
returns-clause-found g c =
    let format = format_of (g.K.Read.after tt) (g.V.Read.after tt) g.K.FixedSize.SIZE g.V.FixedSize.SIZE in
    ap (λ n. take (c.in_ok-count.count * n) c.args.bytes.now) c.record_len-size.ensures
    ∙ committed_count format c.args.bytes.now c.in_ok-count.count
    (at_size format c.args.bytes.now c.record_len-size.result c.in_ok-count.count c.record_len-size.ensures c.in_ok-count.ensures.found)
