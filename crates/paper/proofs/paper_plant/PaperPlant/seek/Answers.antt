use Rattle.std.proofs.Common.{ltb, true, false, ◌≡◌, sym, subst, rules}
use Rattle.std.specs.List.Sorted.{IsPartitionedBy, IsPartitionPoint}
use Rattle.std.proofs.lemmas.List.Sorted.{IsPartitionPoint-from_clause, IsPartitionedBy-ltb}
use Rattle.paper.proofs.Chunks.{key_of, chunks, rising, sought}
use Rattle.paper.proofs.paper_plant.PaperPlant.seek.Goals as goal

pub returns : goal.returns
returns c =
    let bs = c.args.self.now.arcs.now in
    let key = c.args.key in
    let front = c.as_chunks.ensures.front in
    let parted = IsPartitionedBy-ltb key_of (chunks bs) key (rising bs c.args.self.now.rises) in
    let point = IsPartitionPoint-from_clause (λ x. ltb (key_of x) key) c.as_chunks.result.0.now _ c.partition_point.ensures.partitioned (subst (IsPartitionedBy (λ x. ltb (key_of x) key)) (sym front) parted) (λ a r q k. search rules) in
    let s = sought bs key c.partition_point.result (subst (λ cs. IsPartitionPoint (λ x. ltb (key_of x) key ≡ true) (λ x. ltb (key_of x) key ≡ false) cs c.partition_point.result) front point) (rw front at c.partition_point.ensures.bound) in
    record { before = s.0; after = s.1 }
