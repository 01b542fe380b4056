-- The counts of the lines by their table: what their list becomes by one case more, and by one line more.
use Rattle.std.proofs.Common.{◌≡◌, ◌<◌, ◌≤◌, [], ◌∷◌, ◌++◌, length, drop, refl, ◌∙◌, arith}
use Rattle.std.proofs.lemmas.List.{length-append, length-drop, length-set, length-take-le, take_at, take_more_set}
use Rattle.barrier_paper.specs.declared.line_counts.LineCounts.{LineCounts}
use Rattle.barrier_paper.specs.Limits.{most_cases}
use Rattle.barrier_paper.specs.Form.{counts_of, no_case, with_case, last, longer, with_line}

-- counts whose cases lie in the table
pub record Tabled (x : LineCounts) : Type 0 where
  pub width : length x.table ≡ most_cases
  pub fit : x.cases ≤ most_cases

pub counted : (x : LineCounts) → Tabled x → length (counts_of x) ≡ x.cases
counted x h = length-take-le x.cases x.table (omega (arith, h.width, h.fit))

pub none_tabled : Tabled no_case
none_tabled = record { width = refl; fit = omega arith }

pub case_tabled : (x : LineCounts) → Tabled x → length (counts_of x) < most_cases → Tabled (with_case x)
case_tabled x h room = record { width = length-set x.table x.cases 0 ∙ h.width; fit = omega (arith, room, counted x h) }

pub case_counted : (x : LineCounts) → Tabled x → length (counts_of x) < most_cases → counts_of (with_case x) ≡ counts_of x ++ 0 ∷ []
case_counted x h room = take_more_set x.table x.cases 0 (omega (arith, room, counted x h, h.width))

-- the length of the list with one more line
same_length : (x : LineCounts) → Tabled x → length (longer (counts_of x) 1) ≡ x.cases
same_length x h = length-set (counts_of x) (last (counts_of x)) _ ∙ counted x h

pub line_tabled : (x : LineCounts) → Tabled x → Tabled (with_line x)
line_tabled x h = record {
  width = omega (arith, h.width, h.fit, same_length x h, length-append (longer (counts_of x) 1) (drop x.cases x.table), length-drop x.cases x.table);
  fit = h.fit;
}

pub line_counted : (x : LineCounts) → Tabled x → counts_of (with_line x) ≡ longer (counts_of x) 1
line_counted x h = take_at (longer (counts_of x) 1) (drop x.cases x.table) x.cases (same_length x h)
