-- The words after a paper's head: each is a line, a thing of one kind, and the lines rise by a key.
use Rattle.std.proofs.Common.{◌≡◌, ℕ, suc, ◌+◌, ◌^◌, ◌<◌, ◌≤◌, List, [], ◌∷◌, map, Ok, Result, refl}
use Rattle.std.specs.List.{AllByRecursion}
use Rattle.words.specs.declared.faults.PaperFault.{PaperFault}
use Rattle.words.specs.Inverse.{Words}
use Rattle.paper.specs.Runs.{run}
use Rattle.paper.proofs.Steps.{through}

pub record Lines {S I : Type 0} (step : S → ℕ → ℕ → Result S PaperFault) (from : ℕ → S) (of : ℕ → I) (word key : I → ℕ) (Fits : I → Type 0) (Rising : ℕ → List I → Type 0) : Type 0 where
  -- lines rise if each has at least the key after that of the line before it
  pub none : (least : ℕ) → Rising least []
  pub more : (least : ℕ) (i : I) (is : List I) → least ≤ key i → Rising (suc (key i)) is → Rising least (i ∷ is)
  pub parts : (least : ℕ) (i : I) (is : List I) → Rising least (i ∷ is) → (least ≤ key i) × Rising (suc (key i)) is
  -- a line that fits is written as a word that is taken, and that says the line
  pub small : (i : I) → Fits i → word i < 2 ^ 32
  pub says : (i : I) → Fits i → of (word i) ≡ i
  pub takes : (least at : ℕ) (i : I) → Fits i → least ≤ key i → step (from least) at (word i) ≡ Ok (from (suc (key i)))
  -- a word that is taken is the writing of a line that fits
  pub taken : (least at w : ℕ) (s : S) → step (from least) at w ≡ Ok s → Fits (of w) × (least ≤ key (of w)) × (w ≡ word (of w)) × (s ≡ from (suc (key (of w))))

module _ {S I : Type 0} {step : S → ℕ → ℕ → Result S PaperFault} {from : ℕ → S} {of : ℕ → I} {word key : I → ℕ} {Fits : I → Type 0} {Rising : ℕ → List I → Type 0} (L : Lines step from of word key Fits Rising) where
  pub lines_small : (is : List I) → AllByRecursion Fits is → Words (map word is)
  lines_small [] fit = tt
  lines_small (i ∷ is) fit = (L.small i fit.0, lines_small is fit.1)

  pub lines_say : (is : List I) → AllByRecursion Fits is → map of (map word is) ≡ is
  lines_say [] fit = refl
  lines_say (i ∷ is) fit = let e = L.says i fit.0 in let f = lines_say is fit.1 in cc

  pub lines_run : (least at : ℕ) (is : List I) → AllByRecursion Fits is → Rising least is → (s : S) × (run step (from least) at (map word is) ≡ Ok s)
  lines_run least at [] fit rise = (from least, refl)
  lines_run least at (i ∷ is) fit rise =
      let r = L.parts least i is rise in
      let a = lines_run (suc (key i)) (at + 1) is fit.1 r.1 in
      (a.0, rw (L.takes least at i fit.0 r.0) a.1)

  pub lines_read : (least at : ℕ) (ws : List ℕ) (s : S) → run step (from least) at ws ≡ Ok s → AllByRecursion Fits (map of ws) × Rising least (map of ws) × (ws ≡ map word (map of ws))
  lines_read least at [] s p = (tt, L.none least, refl)
  lines_read least at (w ∷ ws) s p =
      let a = through (step (from least) at w) _ _ p in
      let b = L.taken least at w a.0 a.1 in
      let c = lines_read (suc (key (of w))) (at + 1) ws s (rw b.3 at a.2) in
      let e = b.2 in
      let f = c.2 in
      ((b.0, c.0), L.more least (of w) (map of ws) b.1 c.1, cc)
