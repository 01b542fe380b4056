-- Rounds in place: each valve that goes counts for the valves after it in the same round.
use Rattle.std.proofs.Common.{◌≡◌, ℕ, zero, suc, ◌<◌, ◌≤◌, Bool, true, false, ◌&&◌, ◌||◌, eqb, ltb, ◌⊎◌, List, MatchBool, length, set, replicate, arith}
use Rattle.std.proofs.lemmas.Bool.Decides.{nat_tests}
use Rattle.std.proofs.lemmas.Grind.{common_steps}
use Rattle.plant.specs.Net.{Net}
use Rattle.plant.specs.Walk.{Marking}
use Rattle.walks.specs.Rounds.{some_below, next, rounds, greatest}
use Rattle.walks.proofs.Closure.{some_below_not, Part, next_more, greatest_grows, greatest_is}
use Rattle.starting.specs.Starting.{marked, TellsGiven, Within}

-- a table without a mark
pub marked_none : (n k : ℕ) → marked (replicate n false) k ≡ false
marked_none n k = grind (arith, common_steps)

-- before any valve goes, none gives to a tank
pub tells_none : (N : Net) (n k : ℕ) → TellsGiven N (marked (replicate n false)) (marked (replicate k false))
tells_none N n k r l =
    let none = some_below_not N.valves (λ u. marked (replicate n false) u && ltb 0 (N.outlet u r)) (λ u l. grind (arith, marked_none n u)) in
    grind (arith, marked_none k r)

-- valve v has joined the valves E
abbrev pub Joined : (E E' : ℕ → Bool) → ℕ → Type 0
Joined E E' v = (t : ℕ) → E' t ≡ (E t || eqb t v)

pub set_joins : (xs : List Bool) (v : ℕ) → v < length xs → Joined (marked xs) (marked (set xs v true)) v
set_joins xs v l t = grind (arith, common_steps, nat_tests)

some_joined : (n : ℕ) (E E' p : ℕ → Bool) (v : ℕ) → Joined E E' v → some_below n (λ u. E' u && p u) ≡ (some_below n (λ u. E u && p u) || (ltb v n && p v))
some_joined zero E E' p v joins = grind (arith, nat_tests)
some_joined (suc n) E E' p v joins = grind (arith, nat_tests, some_joined n E E' p v joins, joins n)

-- it fills the tanks that it gives to
pub tells_joined : (N : Net) (E E' : ℕ → Bool) (v : ℕ) → Joined E E' v → v < N.valves → (G G' : ℕ → Bool) → TellsGiven N E G → ((r : ℕ) → r < N.tanks → G' r ≡ (G r || ltb 0 (N.outlet v r))) → TellsGiven N E' G'
tells_joined N E E' v joins below G G' h p r l =
    grind (arith, nat_tests, h r l, p r l, some_joined N.valves E E' (λ u. ltb 0 (N.outlet u r)) v joins)

-- a round under way: it began with the valves E, and has come to the valve n
pub record Sweeping (N : Net) (m : Marking) (S E : ℕ → Bool) (n : ℕ) (D : ℕ → Bool) (grew : Bool) : Type 0 where
  pub kept : (t : ℕ) → E t ≡ true → D t ≡ true
  pub ahead : (t : ℕ) → n ≤ t → D t ≡ E t
  pub all : (t : ℕ) → t < n → next N m S E t ≡ true → D t ≡ true
  pub grows : MatchBool grew ((t : ℕ) × (D t ≡ true) × (E t ≡ false)) ((t : ℕ) → D t ≡ E t)

module _ (N : Net) (m : Marking) (S E : ℕ → Bool) (n : ℕ) (D : ℕ → Bool) (grew : Bool) (so_far : Sweeping N m S E n D grew) where
  pub sweeping_joined : (D' : ℕ → Bool) → Joined D D' n → D n ≡ false → Sweeping N m S E (suc n) D' true
  sweeping_joined D' joins out = record {
    kept = λ t h. grind (arith, nat_tests, joins t, so_far.kept t);
    ahead = λ t l. grind (arith, nat_tests, joins t, so_far.ahead t);
    all = λ t l h. grind (arith, nat_tests, joins t, so_far.all t);
    grows = (n, grind (arith, nat_tests, joins n), grind (arith, so_far.ahead n));
  }

  pub sweeping_left : (D n ≡ true) ⊎ (next N m S D n ≡ false) → Sweeping N m S E (suc n) D grew
  sweeping_left h = record {
    kept = so_far.kept;
    ahead = λ t l. so_far.ahead t (omega arith);
    all = λ t l k. let more = next_more N m S E D (λ u l. so_far.kept u) n in grind (arith, so_far.all t);
    grows = so_far.grows;
  }

module _ (N : Net) (m : Marking) (S : ℕ → Bool) where
  pub within_joined : (E E' : ℕ → Bool) (v : ℕ) → Joined E E' v → v < N.valves → next N m S E v ≡ true → Within N m S E → Within N m S E'
  within_joined E E' v joins l h w t k =
      let new = greatest_grows N m S E (λ u _ j. (w u j).1) v l h in
      (grind (arith, nat_tests, joins t, w t), grind (arith, nat_tests, joins t, w t))

  module _ (E D : ℕ → Bool) (all : (t : ℕ) → t < N.valves → next N m S E t ≡ true → D t ≡ true) where
    -- each round goes at least as far as one of the definition
    pub round_more : (k : ℕ) → Part N.valves (rounds N m S k) E → Part N.valves (rounds N m S (suc k)) D
    round_more k p t l h = all t l (next_more N m S (rounds N m S k) E p t h)

    -- a round that adds nothing ends the search
    pub none_grew : Within N m S D → ((t : ℕ) → D t ≡ E t) → (t : ℕ) → t < N.valves → D t ≡ greatest N m S t
    none_grew w same = greatest_is N m S D (λ t l h. (w t h).1) (λ t l h. all t l (next_more N m S D E (λ u _ k. grind (arith, same u)) t h))

  -- as many rounds as there are valves end it too
  pub rounds_all : (D : ℕ → Bool) → Within N m S D → Part N.valves (greatest N m S) D → (t : ℕ) → t < N.valves → D t ≡ greatest N m S t
  rounds_all D w p t l = grind (arith, w t, p t l)
