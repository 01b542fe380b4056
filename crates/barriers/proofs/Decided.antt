-- The tests compute the rule.
use Rattle.std.proofs.Common.{◌≡◌, ℕ, ◌<◌, ◌≤◌, Bool, true, false, not, ◌||◌, leb, List, length, ℤ, pos, ◌-ℤ◌, ◌*ℤ◌, ◌≤ℤ◌, ◌<ℤ◌, Decides, sym, refl, arith}
use lib.Signed.{le_z, lt_z}
use borrow.Author.Differences.{ints}
use Rattle.std.proofs.lemmas.Bool.Decides.{Decides-and, Decides-or, Decides-not, Decides-eqb, Decides-ltb, Decides-like}
use Rattle.plant.specs.Net.{Net}
use Rattle.plant.specs.Walk.{Marking, held}
use Rattle.walks.specs.Rounds.{all_below, some_below}
use Rattle.walks.proofs.Closure.{all_below_at, all_below_from, some_below_at, some_below_has}
use Rattle.barriers.specs.Lines.{side, Line, Case, Barrier, line_at, case_at, Compares, HoldsLine, HoldsCase, HoldsOf}
use Rattle.barriers.specs.Steps.{Way, forward, backward, Step, step_at, match_at, flow, TankGood, Marked, MatchGood, Closes}
use Rattle.barriers.specs.Tests.{compares?, holds_line?, holds_case?, tank_good?, marked?, good?, match_good?, same_way?, closes?, closed_way?, holds_of?, accepts?}
use Rattle.barriers.specs.Theorems.{LineDecided, BarrierDecided, GoodDecided, AcceptanceDecided}

-- ---- tests of numbers

decides_leZ : (a b : ℤ) → Decides (le_z a b) (a ≤ℤ b)
decides_leZ a b = (λ e. grind (arith, ints), λ h. grind (arith, ints))

decides_ltZ : (a b : ℤ) → Decides (lt_z a b) (a <ℤ b)
decides_ltZ a b = (λ e. grind (arith, ints), λ h. grind (arith, ints))

decides_is : (b : Bool) → Decides b (b ≡ true)
decides_is b = (λ e. e, λ e. e)

decides_is_not : (b : Bool) → Decides (not b) (b ≡ false)
decides_is_not true = (λ e. sym e, λ e. sym e)
decides_is_not false = (λ e. refl, λ e. refl)

decides_some : (k : ℕ) → Decides (leb 1 k) (1 ≤ k)
decides_some k = Decides-ltb 0 k

every_below : (p : ℕ → Bool) (P : ℕ → Type 0) → ((k : ℕ) → Decides (p k) (P k)) → (n : ℕ) → Decides (all_below n p) ((k : ℕ) → k < n → P k)
every_below p P each n = (λ e k l. (each k).0 (all_below_at n p e k l), λ h. all_below_from n p (λ k l. (each k).1 (h k l)))

any_below : (p : ℕ → Bool) (P : ℕ → Type 0) → ((k : ℕ) → Decides (p k) (P k)) → (n : ℕ) → Decides (some_below n p) ((k : ℕ) × (k < n) × P k)
any_below p P each n = (λ e. let (k, l, h) = some_below_has n p e in (k, l, (each k).0 h), λ h. some_below_at n p h.0 h.1 ((each h.0).1 h.2))

-- ---- a line, a case, a barrier

decides_compares : (s : Bool) (u v : ℤ) → Decides (compares? s u v) (Compares s u v)
decides_compares true u v = decides_ltZ u v
decides_compares false u v = decides_leZ u v

pub line_decided : LineDecided
line_decided n ψ m m' = decides_compares ψ.strict (side ψ.left m n) (side ψ.right m' n)

case_decided : (n : ℕ) (φ : Case) (m m' : Marking) → Decides (holds_case? n φ m m') (HoldsCase n φ m m')
case_decided n φ m m' = every_below (λ k. holds_line? n (line_at φ k) m m') (λ k. HoldsLine n (line_at φ k) m m') (λ k. line_decided n (line_at φ k) m m') (length φ)

pub barrier_decided : BarrierDecided
barrier_decided n β m m' = any_below (λ i. holds_case? n (case_at β i) m m') (λ i. HoldsCase n (case_at β i) m m') (λ i. case_decided n (case_at β i) m m') (length β)

-- ---- a match, a step

tank_decided : (ψ ψ' : Line) (p q r : ℕ) → Decides (tank_good? ψ ψ' p q r) (TankGood ψ ψ' p q r)
tank_decided ψ ψ' p q r =
    Decides-like (tank_good? ψ ψ' p q r) (λ h. record { left_drops = h.0; right_grows = h.1 }) (λ h. (h.left_drops, h.right_grows))
    (Decides-and _ _ (decides_leZ (pos 0) (pos p *ℤ ψ.left r -ℤ pos q *ℤ ψ'.left r)) (decides_leZ (pos 0) (pos q *ℤ ψ'.right r -ℤ pos p *ℤ ψ.right r)))

mark_decided : (f : ℤ) (ψ ψ' : Line) (p q : ℕ) → Decides (marked? f ψ ψ' p q) (Marked f ψ ψ' p q)
mark_decided f ψ ψ' p q =
    Decides-or _ _ (decides_ltZ (pos 0) f) (Decides-or _ _ (Decides-and _ _ (decides_is ψ.strict) (decides_some p)) (Decides-and _ _ (decides_is_not ψ'.strict) (decides_some q)))

pub good_decided : GoodDecided
good_decided N way t ψ ψ' p q =
    Decides-like (good? N way t ψ ψ' p q) (λ h. record { tanks_good = h.0; flows = h.1.0; marked = h.1.1 }) (λ g. (g.tanks_good, (g.flows, g.marked)))
    (Decides-and _ _ (every_below (tank_good? ψ ψ' p q) (TankGood ψ ψ' p q) (tank_decided ψ ψ' p q) N.tanks)
    (Decides-and _ _ (decides_leZ (pos 0) (flow N way t ψ ψ' p q)) (mark_decided (flow N way t ψ ψ' p q) ψ ψ' p q)))

match_decided : (N : Net) (β : Barrier) (s : Step) (k : ℕ) → Decides (match_good? N β s k) (MatchGood N β s k)
match_decided N β s k =
    Decides-like (match_good? N β s k) (λ h. record { named = h.0; good = h.1 }) (λ h. (h.named, h.good))
    (Decides-and _ _ (Decides-ltb (match_at s k).line (length (case_at β s.from)))
    (good_decided N s.way s.valve (line_at (case_at β s.from) (match_at s k).line) (line_at (case_at β s.to) k) (match_at s k).p (match_at s k).q))

way_decided : (v w : Way) → Decides (same_way? v w) (v ≡ w)
way_decided forward forward = (λ e. refl, λ e. refl)
way_decided forward backward = (λ e. cc, λ e. cc)
way_decided backward forward = (λ e. cc, λ e. cc)
way_decided backward backward = (λ e. refl, λ e. refl)

closes_decided : (N : Net) (β : Barrier) (way : Way) (i t : ℕ) (s : Step) → Decides (closes? N β way i t s) (Closes N β way i t s)
closes_decided N β way i t s =
    Decides-like (closes? N β way i t s)
    (λ h. record { its_way = h.0.0; its_case = h.0.1.0; its_valve = h.0.1.1; reaches = h.1.0; all_good = h.1.1 })
    (λ c. ((c.its_way, (c.its_case, c.its_valve)), (c.reaches, c.all_good)))
    (Decides-and _ _ (Decides-and _ _ (way_decided s.way way) (Decides-and _ _ (Decides-eqb s.from i) (Decides-eqb s.valve t)))
    (Decides-and _ _ (Decides-ltb s.to (length β)) (every_below (match_good? N β s) (MatchGood N β s) (match_decided N β s) (length (case_at β s.to)))))

-- ---- all of a barrier

abbrev HasStep : Net → Barrier → List Step → Way → ℕ → ℕ → Type 0
HasStep N β steps way i t = (k : ℕ) × (k < length steps) × Closes N β way i t (step_at steps k)

unless : {P : Type 0} (b y : Bool) → Decides y P → Decides (not b || y) (b ≡ true → P)
unless true y d = (λ e _. d.0 e, λ f. d.1 (f refl))
unless false y d = (λ e f. absurd (let z : ◌≡◌ {A = ℕ} 0 1 = cc in omega arith), λ f. refl)

way_closed : (N : Net) (β : Barrier) (steps : List Step) (way : Way) → Decides (closed_way? N β steps way) ((i : ℕ) → i < length β → (t : ℕ) → t < N.valves → N.opens t ≡ true → HasStep N β steps way i t)
way_closed N β steps way =
    every_below _ (λ i. (t : ℕ) → t < N.valves → N.opens t ≡ true → HasStep N β steps way i t)
    (λ i. every_below _ (λ t. N.opens t ≡ true → HasStep N β steps way i t)
    (λ t. unless (N.opens t) _ (any_below _ (λ k. Closes N β way i t (step_at steps k)) (λ k. closes_decided N β way i t (step_at steps k)) (length steps)))
    N.valves)
    (length β)

both_ways : (P : Way → Type 0) → P forward × P backward → (way : Way) → P way
both_ways P h forward = h.0
both_ways P h backward = h.1

pub acceptance_decided : AcceptanceDecided
acceptance_decided N β steps A B =
    Decides-like (accepts? N β steps A B)
    (λ h. record { at_source = h.0.0; at_target = h.0.1.0; apart = h.0.1.1; closed = both_ways (λ way. (i : ℕ) → i < length β → (t : ℕ) → t < N.valves → N.opens t ≡ true → HasStep N β steps way i t) h.1 })
    (λ a. ((a.at_source, (a.at_target, a.apart)), (a.closed forward, a.closed backward)))
    (Decides-and _ _ (Decides-and _ _ (of A A) (Decides-and _ _ (of B B) (Decides-not _ (of A B)))) (Decides-and _ _ (way_closed N β steps forward) (way_closed N β steps backward)))
  where
    of : (C D : List ℕ) → Decides (holds_of? N β C D) (HoldsOf N β C D)
    of C D = barrier_decided N.tanks β (held C) (held D)
