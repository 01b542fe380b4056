use Rattle.std.proofs.Common.{◌≡◌, ◌+◌, ◌<◌, ◌++◌, nat_lt, true, length, get_or, set, drop, Some, sym, ap, ◌∙◌, take-append-drop, arith}
use Rattle.std.proofs.lemmas.List.{get_or-take, length-take, set-append_left}
use Rattle.barrier_paper.specs.Limits.{most_lines}
use Rattle.barrier_paper.specs.Form.{counts_of, last, longer}
use Rattle.barrier_paper.proofs.line_counts.LineCounts.with_line.Goals as goal

pub returns : goal.returns
returns c =
    let s = c.args.self in
    let front = counts_of s in
    let inside : last front < length front = omega (arith, c.len-cases.ensures) in
    let count : get_or front (last front) 0 ≡ get_or s.table (last front) 0 = get_or-take s.cases s.table (last front) 0 (omega (arith, inside, length-take s.cases s.table)) in
    let few : nat_lt (get_or front (last front) 0) most_lines ≡ true = rw (count, ← c.len-cases.ensures, ← c.from.ensures) (grind arith) in
    let more : set s.table (last front) (get_or s.table (last front) 0 + 1) ≡ longer front 1 ++ drop s.cases s.table =
    ap (λ t. set t (last front) (get_or s.table (last front) 0 + 1)) (sym (take-append-drop s.cases s.table))
    ∙ set-append_left front (drop s.cases s.table) (last front) _ inside
    ∙ ap (λ n. set front (last front) (n + 1) ++ drop s.cases s.table) (sym count) in
    rw (few, c.len-cases.ensures) (ap (λ t. Some (record s { table = t })) more)
