-- How many cases a paper has.
use Rattle.std.proofs.Common.{◌≡◌, ℕ, suc, cond, eqb, List, [], ◌∷◌, length, refl, arith}
use Rattle.std.proofs.lemmas.Bool.Decides.{nat_tests}
use Rattle.words.specs.Words.{kind}
use Rattle.barrier_paper.specs.Document.{Said, say, said}
use Rattle.barrier_paper.specs.Windows.{count_kind}

-- each word of kind 6 begins a case, and no other does
one_more : (w n : ℕ) (d : Said) → n ≡ length d.cases → cond (eqb (kind w) 6) (suc n) n ≡ length (say w d).cases
one_more w n d h = grind (arith, nat_tests)

pub cases_counted : (ws : List ℕ) → count_kind 6 ws ≡ length (said ws).cases
cases_counted [] = refl
cases_counted (w ∷ ws) = one_more w (count_kind 6 ws) (said ws) (cases_counted ws)
