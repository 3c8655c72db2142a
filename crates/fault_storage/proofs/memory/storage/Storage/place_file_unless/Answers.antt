use Rattle.std.proofs.Common.{rules, ◌≡◌, ◌+◌, ℕ, List, not, filter, inr, ap, ◌∙◌}
use Rattle.fault_storage.specs.declared.stored.StoredFile.{StoredFile}
use Rattle.fault_storage_parts.specs.Files.{File}
use Rattle.fault_storage.specs.Stores.{Store, settled_at}
use Rattle.fault_storage.specs.Directory.{placed, in_order, with_partition, has_name}
use Rattle.fault_storage.proofs.memory.storage.Storage.place_file_unless.Goals as goal

-- the file is placed
placing : (partition name bytes : List ℕ) (old : Store) (partitions with : List (List ℕ)) (files had put : List StoredFile)
    (order : List ℕ) (next after : ℕ)
    (noted : List ℕ × List ℕ) (file : File) → record { partitions = partitions; files = files; order = order; next = next } ≡ old → had ≡ files
    → noted ≡ (partition, name) → file ≡ settled_at bytes → with ≡ with_partition partition partitions
    → put ≡ in_order (record { name = noted; number = next; file = file }) (filter (λ other. not (has_name partition name other)) had)
    → after ≡ next + 1
    → record { partitions = with; files = put; order = order; next = after } ≡ placed partition name bytes old
placing partition name bytes old partitions with files had put order next after noted file view same names settles notes puts takes =
    let left = λ (l : List StoredFile). filter (λ other. not (has_name partition name other)) l in
    ap (λ p. record { partitions = p; files = put; order = order; next = after }) notes
    ∙ ap (λ f. record { partitions = with_partition partition partitions; files = f; order = order; next = after }) puts
    ∙ ap (λ n. record {
      partitions = with_partition partition partitions;
      files = in_order (record { name = n; number = next; file = file })
          (left had);
      order = order;
      next = after;
    }) names
    ∙ ap (λ f. record {
      partitions = with_partition partition partitions;
      files = in_order (record { name = (partition, name); number = next; file = f })
          (left had);
      order = order;
      next = after;
    }) settles
    ∙ ap (λ n. record {
      partitions = with_partition partition partitions;
      files = in_order
          (record { name = (partition, name); number = next; file = settled_at bytes }) (left had);
      order = order;
      next = n;
    }) takes
    ∙ ap (λ l. record {
      partitions = with_partition partition partitions;
      files = in_order
          (record { name = (partition, name); number = next; file = settled_at bytes }) (left l);
      order = order;
      next = next + 1;
    }) same
    ∙ ap (placed partition name bytes) view

pub returns : goal.returns
returns g c = inr (inr (
  search rules,
  search rules,
  (
    c.take_number.ensures.0 ∙ ap (λ s. s.next) c.self.view_is,
    placing c.args.partition.now c.args.name.now c.args.base.items c.args.self.now c.self.inside.partitions.items c.note_partition.new.partitions.items
        c.self.inside.files.items
        c.reserve.new.self.items c.replace_file.new.files.items c.self.inside.order.items c.self.inside.next c.take_number.new.next c.in_ok-noted.noted
        c.new-3.result c.self.view_is c.reserve.ensures.items (search rules) c.new-3.ensures
        (search rules) c.replace_file.ensures c.take_number.ensures.1,
  ),
  search rules,
))
