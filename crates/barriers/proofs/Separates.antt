-- An accepted barrier is a locally closed bi-separator, and a bi-separator excludes every walk.
use Rattle.std.proofs.Common.{◌≡◌, ℕ, ◌<◌, true, List, refl, arith}
use Rattle.plant.specs.Net.{Net, Bounded}
use Rattle.plant.specs.Walk.{Marking, Firing, Fires, Leads, stays, fires, held, times}
use Rattle.barriers.specs.Lines.{Barrier, HoldsBarrier, line_at, case_at}
use Rattle.barriers.specs.Steps.{Way, forward, backward, Step, step_at, match_at, Closes, Accepts}
use Rattle.barriers.specs.Separator.{Takes, CaseImplies, LocallyClosed, LocallyClosedBy, LeadsTo, BiInvariant}
use Rattle.barriers.specs.Theorems.{LocallyClosedInvariant, AcceptedSeparates, SeparatorExcludes, AcceptedExcludes}
use Rattle.walks.proofs.Wider.{walk_wider, run_open}
use Rattle.barriers.proofs.Matches.{good_implies}
use Rattle.barriers.proofs.Scaling.{homogeneous, barrier_carried, line_same}

-- ---- accepted, so locally closed

leads_to : (N : Net) (β : Barrier) (way : Way) (i t : ℕ) (s : Step) → Closes N β way i t s → LeadsTo N β way i t s
leads_to N β way i t s c = record {
  its_way = c.its_way;
  its_case = c.its_case;
  its_valve = c.its_valve;
  reaches = c.reaches;
  implies = rw (c.its_way, c.its_case, c.its_valve) at implied;
}
  where
    implied : CaseImplies N s.way s.valve (case_at β s.from) (case_at β s.to)
    implied k l =
        let μ = match_at s k in
        (μ.line, (c.all_good k l).named, good_implies N s.way s.valve (line_at (case_at β s.from) μ.line) (line_at (case_at β s.to) k) μ.p μ.q (c.all_good k l).good)

-- an open valve is one of the counted
counted : (N : Net) (t : ℕ) → Bounded N → N.opens t ≡ true → t < N.valves
counted N t b opened = grind (arith, b.closed_beyond t)

pub accepted_closed_by : (N : Net) (β : Barrier) (steps : List Step) (A B : List ℕ) → Bounded N → Accepts N β steps A B → LocallyClosedBy N β steps
accepted_closed_by N β steps A B b a way i below t opened =
    let s = a.closed way i below t (counted N t b opened) opened in
    (s.0, s.1, leads_to N β way i t (step_at steps s.0) s.2)

forget_steps : (N : Net) (β : Barrier) (steps : List Step) → LocallyClosedBy N β steps → LocallyClosed N β
forget_steps N β steps c way i below t opened =
    let s = c way i below t opened in
    ((step_at steps s.0).to, s.2.reaches, s.2.implies)

-- ---- locally closed, so invariant

takes : (N : Net) (f : Firing) (m m' : Marking) → Fires N m f m' → Takes N f.valve f.amount m m'
takes N f m m' h = record { some = h.some; holds = h.holds; moves = h.moves }

pub locally_closed_invariant : LocallyClosedInvariant
locally_closed_invariant N β c = record {
  ahead = λ m m' m'' f h fired.
      let j = c forward h.0 h.1 f.valve fired.is_open in
      (j.0, j.1, λ k l. let i = j.2 k l in i.2 m m' m'' f.amount (h.2 i.0 i.1) (takes N f m' m'' fired));
  back = λ m₀ m m' f fired h.
      let j = c backward h.0 h.1 f.valve fired.is_open in
      (j.0, j.1, λ k l. let i = j.2 k l in i.2 m₀ m m' f.amount (takes N f m₀ m fired) (h.2 i.0 i.1));
}

pub accepted_separates : AcceptedSeparates
accepted_separates N β steps A B b a =
    let by = accepted_closed_by N β steps A B b a in
    let closed = forget_steps N β steps by in
    record {
      by_steps = by;
      locally_closed = closed;
      separator = record { invariant = locally_closed_invariant N β closed; at_source = a.at_source; at_target = a.at_target; apart = a.apart };
    }

-- ---- a separator excludes walks

along : (N : Net) (β : Barrier) → BiInvariant N β → (m₀ : Marking) {m m' : Marking} {fs : List Firing} → Leads N m fs m' → HoldsBarrier N.tanks β m₀ m → HoldsBarrier N.tanks β m₀ m'
along N β c m₀ (stays {m} {m'} same) h = barrier_carried N.tanks β m₀ m m₀ m' (line_same N.tanks m₀ m m₀ m' (λ r l. refl) same) h
along N β c m₀ (fires {m} {m₁} {m'} {f} fired leads) h = along N β c m₀ leads (c.ahead m₀ m m₁ f h fired)

pub separator_excludes : SeparatorExcludes
separator_excludes N β A B s w =
    let n = N.tanks in
    let k = w.scale in
    let a : Marking = held A in
    let b : Marking = held B in
    let start = barrier_carried n β a a (times k A) (times k A) (λ ψ. (homogeneous n ψ a a k w.positive).1) s.at_source in
    let end = along N β s.invariant (times k A) w.leads start in
    s.apart (barrier_carried n β (times k A) (times k B) a b (λ ψ. (homogeneous n ψ a b k w.positive).0) end)

-- with fewer open valves there is no walk that would not be one of the plant itself
pub accepted_excludes : AcceptedExcludes
accepted_excludes N₁ N β steps A B b a same still w =
    separator_excludes N β A B (accepted_separates N β steps A B b a).separator (walk_wider N₁ N same A B w (λ t k. still t (run_open N₁ w.leads t k))).0
