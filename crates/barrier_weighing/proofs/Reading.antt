-- The cases that are read from a paper are those of its document.
use Rattle.std.proofs.Common.{◌≡◌, ℕ, ◌<◌, min, List, [], map, length, sym, arith}
use Rattle.std.specs.List.{range_with_len}
use Rattle.std.proofs.lemmas.List.FromFn.{fill_by_all}
use Rattle.std.proofs.ByRecursion.{All-get_or, All-from_get_or}
use Rattle.plant.specs.Net.{Net}
use Rattle.words.specs.Words.{words}
use Rattle.barriers.specs.Lines.{no_line, case_at}
use Rattle.barrier_paper.specs.Limits.{most_cases}
use Rattle.barrier_paper.specs.Document.{BarrierDocument, BarrierFormed, CaseFits, barrier_of, barrier_paper}
use Rattle.barrier_paper.specs.Windows.{case_part, line_part, line_said}
use Rattle.barrier_paper.specs.OfBarrier.{barrier_said}
use Rattle.barrier_paper.specs.declared.barrier_paper.BarrierPaper.{BarrierPaper}
use Rattle.barrier_paper.proofs.BarrierExact.{barrier_papers_are_exact}
use Rattle.barrier_paper.proofs.Parts.{line_read, lines_found, cases_kept, lines_kept}
use Rattle.barrier_weighing.specs.OfCases.{case_said, ReadOn}

module _ (tanks valves : ℕ) (d : BarrierDocument) (f : BarrierFormed tanks valves d) (bs : List ℕ) (is : bs ≡ barrier_paper d) where
  case_read : (i : ℕ) → i < length d.cases → case_at (barrier_of d) i ≡ case_said (case_part i (words bs))
  case_read i h =
      fill_by_all (λ l. line_said (line_part l (case_part i (words bs)))) (case_at (barrier_of d) i) _ no_line
      (omega (arith, lines_kept d i, lines_found tanks valves d f bs is i, (All-get_or (CaseFits tanks) d.cases i [] h f.cases_fit).few_lines))
      (λ l _. sym (line_read tanks valves d f bs is i l))

  pub cases_read : (n : ℕ) → n ≡ length d.cases → map (λ i. case_said (case_part i (words bs))) (range_with_len 0 (min n most_cases)) ≡ barrier_of d
  cases_read n e =
      sym (fill_by_all (λ i. case_said (case_part i (words bs))) (barrier_of d) (min n most_cases) [] (omega (arith, e, cases_kept d, f.few_cases)) (λ i h. case_read i (omega (arith, e))))

-- a paper that is read without fault is the writing of a well-formed document
pub formed_of : (N : Net) (x : BarrierPaper) → ReadOn N x → BarrierFormed N.tanks N.valves (barrier_said x)
formed_of N x h =
    (barrier_papers_are_exact.read_is_written N.tanks N.valves x.bytes.now (All-from_get_or (λ b. b < 256) x.bytes.now 0 h.small) (barrier_said x) h.read).0
