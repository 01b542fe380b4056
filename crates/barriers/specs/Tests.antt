-- The rule by tests that compute.
use Rattle.std.specs.Prelude.{ℕ, Bool, true, false, not, ◌&&◌, ◌||◌, List, length, ℤ, pos, ◌-ℤ◌, ◌*ℤ◌, ◌==◌, int_le, int_lt, nat_le, nat_lt}
use Rattle.plant.specs.Net.{Net}
use Rattle.plant.specs.Walk.{Marking, held}
use Rattle.walks.specs.Rounds.{all_below, some_below}
use Rattle.barriers.specs.Lines.{side, Line, Case, Barrier, line_at, case_at}
use Rattle.barriers.specs.Steps.{Way, forward, backward, Step, match_at, step_at, flow}

abbrev pub compares? : Bool → ℤ → ℤ → Bool
compares? true u v = int_lt u v
compares? false u v = int_le u v

abbrev pub holds_line? : ℕ → Line → Marking → Marking → Bool
holds_line? n ψ m m' = compares? ψ.strict (side ψ.left m n) (side ψ.right m' n)

abbrev pub holds_case? : ℕ → Case → Marking → Marking → Bool
holds_case? n φ m m' = all_below (length φ) (λ k. holds_line? n (line_at φ k) m m')

abbrev pub holds_barrier? : ℕ → Barrier → Marking → Marking → Bool
holds_barrier? n β m m' = some_below (length β) (λ i. holds_case? n (case_at β i) m m')

abbrev pub tank_good? : Line → Line → ℕ → ℕ → ℕ → Bool
tank_good? ψ ψ' p q r = int_le (pos 0) (pos p *ℤ ψ.left r -ℤ pos q *ℤ ψ'.left r) && int_le (pos 0) (pos q *ℤ ψ'.right r -ℤ pos p *ℤ ψ.right r)

abbrev pub marked? : ℤ → Line → Line → ℕ → ℕ → Bool
marked? flowing ψ ψ' p q = int_lt (pos 0) flowing || ((ψ.strict && nat_le 1 p) || (not ψ'.strict && nat_le 1 q))

abbrev pub good? : Net → Way → ℕ → Line → Line → ℕ → ℕ → Bool
good? N way t ψ ψ' p q = all_below N.tanks (tank_good? ψ ψ' p q) && (int_le (pos 0) (flow N way t ψ ψ' p q) && marked? (flow N way t ψ ψ' p q) ψ ψ' p q)

abbrev pub match_good? : Net → Barrier → Step → ℕ → Bool
match_good? N β s k = nat_lt (match_at s k).line (length (case_at β s.from)) && good? N s.way s.valve (line_at (case_at β s.from) (match_at s k).line) (line_at (case_at β s.to) k) (match_at s k).p (match_at s k).q

abbrev pub same_way? : Way → Way → Bool
same_way? forward forward = true
same_way? forward backward = false
same_way? backward forward = false
same_way? backward backward = true

abbrev pub closes? : Net → Barrier → Way → ℕ → ℕ → Step → Bool
closes? N β way i t s = (same_way? s.way way && (s.from == i && s.valve == t)) && (nat_lt s.to (length β) && all_below (length (case_at β s.to)) (match_good? N β s))

abbrev pub closed_way? : Net → Barrier → List Step → Way → Bool
closed_way? N β steps way = all_below (length β) (λ i. all_below N.valves (λ t. not (N.opens t) || some_below (length steps) (λ k. closes? N β way i t (step_at steps k))))

abbrev pub holds_of? : Net → Barrier → List ℕ → List ℕ → Bool
holds_of? N β A B = holds_barrier? N.tanks β (held A) (held B)

abbrev pub accepts? : Net → Barrier → List Step → List ℕ → List ℕ → Bool
accepts? N β steps A B = (holds_of? N β A A && (holds_of? N β B B && not (holds_of? N β A B))) && (closed_way? N β steps forward && closed_way? N β steps backward)
