-- Laws of the words of a run of bytes.
use Rattle.std.proofs.Common.{◌≡◌, ℕ, zero, suc, ◌+◌, ◌-◌, ◌*◌, ◌/◌, ◌^◌, ◌<◌, ◌≤◌, List, [], ◌∷◌, length, get_or, take, drop, Some, None, sym, refl, ap, ◌∙◌, add-one, arith}
use Rattle.std.proofs.lemmas.List.{take_rest, drop_all, length-drop}
use Rattle.words.specs.Words.{words, word, first, rest}

pub words_four : (bs : List ℕ) → 4 ≤ length bs → words bs ≡ word (get_or bs 0 0) (get_or bs 1 0) (get_or bs 2 0) (get_or bs 3 0) ∷ words (drop 4 bs)
words_four [] h = absurd (omega arith)
words_four (a ∷ []) h = absurd (omega arith)
words_four (a ∷ b ∷ []) h = absurd (omega arith)
words_four (a ∷ b ∷ c ∷ []) h = absurd (omega arith)
words_four (a ∷ b ∷ c ∷ d ∷ rest) h = refl

pub words_few : (bs : List ℕ) → length bs < 4 → words bs ≡ []
words_few [] h = refl
words_few (a ∷ []) h = refl
words_few (a ∷ b ∷ []) h = refl
words_few (a ∷ b ∷ c ∷ []) h = refl
words_few (a ∷ b ∷ c ∷ d ∷ rest) h = absurd (omega arith)

-- the words of what lies between two bytes
pub words_rest : (bs : List ℕ) → 4 ≤ length bs → words bs ≡ word (get_or bs 0 0) (get_or bs 1 0) (get_or bs 2 0) (get_or bs 3 0) ∷ words (take (length bs - 4) (drop 4 bs))
words_rest bs h = rw (take_rest bs 4) (words_four bs h)

four : (k : ℕ) → 4 * suc k ≡ suc (suc (suc (suc (4 * k))))
four k = omega arith

pub words_drop : (k : ℕ) (bs : List ℕ) → words (drop (4 * k) bs) ≡ drop k (words bs)
words_drop zero bs = refl
words_drop (suc k) [] = rw (four k)
words_drop (suc k) (a ∷ []) = rw (four k)
words_drop (suc k) (a ∷ b ∷ []) = rw (four k)
words_drop (suc k) (a ∷ b ∷ c ∷ []) = rw (four k)
words_drop (suc k) (a ∷ b ∷ c ∷ d ∷ rest) = rw (four k) (words_drop k rest)

pub words_take : (k : ℕ) (bs : List ℕ) → words (take (4 * k) bs) ≡ take k (words bs)
words_take zero bs = refl
words_take (suc k) [] = rw (four k)
words_take (suc k) (a ∷ []) = rw (four k)
words_take (suc k) (a ∷ b ∷ []) = rw (four k)
words_take (suc k) (a ∷ b ∷ c ∷ []) = rw (four k)
words_take (suc k) (a ∷ b ∷ c ∷ d ∷ rest) = rw (four k) (ap (λ ws. word a b c d ∷ ws) (words_take k rest))

pub length_words : (bs : List ℕ) → length (words bs) ≡ length bs / 4
length_words [] = refl
length_words (a ∷ []) = refl
length_words (a ∷ b ∷ []) = refl
length_words (a ∷ b ∷ c ∷ []) = refl
length_words (a ∷ b ∷ c ∷ d ∷ rest) = omega (arith, length_words rest)

pub word_below : (a b c d : ℕ) → a < 256 → b < 256 → c < 256 → d < 256 → word a b c d < 2 ^ 32
word_below a b c d ha hb hc hd = omega arith

-- past the last whole word there is none
pub first_past : (k : ℕ) (bs : List ℕ) → length bs / 4 ≤ k → first (drop k (words bs)) ≡ None
first_past k bs h = rw (drop_all k (words bs) (omega (arith, length_words bs)))

-- the word at k, where the bytes from 4 * k on begin with it
pub first_here : (k : ℕ) (bs : List ℕ) (w : ℕ) (ws : List ℕ) → words (take (length bs - 4 * k) (drop (4 * k) bs)) ≡ w ∷ ws → first (drop k (words bs)) ≡ Some w
first_here k bs w ws e = ap first (sym (words_drop k bs) ∙ ap words (sym (take_rest bs (4 * k))) ∙ e)

four_sub : (i j : ℕ) → 4 * j - 4 * i ≡ 4 * (j - i)
four_sub i j = omega arith

pub words_part : (i j : ℕ) (bs : List ℕ) → words (take (4 * j - 4 * i) (drop (4 * i) bs)) ≡ take (j - i) (drop i (words bs))
words_part i j bs = ap (λ n. words (take n (drop (4 * i) bs))) (four_sub i j) ∙ words_take (j - i) (drop (4 * i) bs) ∙ ap (take (j - i)) (words_drop i bs)

go : (k : ℕ) (ws : List ℕ) → rest (drop k ws) ≡ drop (suc k) ws
go zero [] = refl
go zero (w ∷ ws) = refl
go (suc k) [] = refl
go (suc k) (w ∷ ws) = go k ws

pub rest_drop : (k : ℕ) (ws : List ℕ) → rest (drop k ws) ≡ drop (k + 1) ws
rest_drop k ws = rw (add-one k) (go k ws)

pub rest_past : (k : ℕ) (bs : List ℕ) → length bs / 4 ≤ k → rest (drop k (words bs)) ≡ drop k (words bs)
rest_past k bs h = rw (drop_all k (words bs) (omega (arith, length_words bs)))

first_some : (ws : List ℕ) (w : ℕ) → Some w ≡ first ws → ws ≡ w ∷ rest ws
first_some [] w e = absurd (let z : ◌≡◌ {A = ℕ} 0 1 = cc in omega arith)
first_some (v ∷ ws) w e = let z : v ≡ w = cc in ap (λ u. u ∷ ws) z

-- where there is a word at k, it comes before the words from k + 1 on
pub here : (k : ℕ) (bs : List ℕ) (w : ℕ) → Some w ≡ first (drop k (words bs)) → drop k (words bs) ≡ w ∷ drop (k + 1) (words bs)
here k bs w e = first_some (drop k (words bs)) w e ∙ ap (λ u. w ∷ u) (rest_drop k (words bs))

pub here_inside : (k : ℕ) (bs : List ℕ) (w : ℕ) → Some w ≡ first (drop k (words bs)) → 4 * (k + 1) ≤ length bs
here_inside k bs w e = let n = ap length (here k bs w e) in let m = length-drop k (words bs) in omega (arith, length_words bs, n, m)

-- a word that was read stands at its place, and where none was read the place is past the end
pub read_some : (k : ℕ) (ws : List ℕ) (w : ℕ) → Some w ≡ first (drop k ws) → (k < length ws) × (get_or ws k 0 ≡ w)
read_some zero [] w e = absurd (let z : ◌≡◌ {A = ℕ} 0 1 = cc in omega arith)
read_some zero (v ∷ ws) w e = let z : v ≡ w = cc in (omega arith, z)
read_some (suc k) [] w e = absurd (let z : ◌≡◌ {A = ℕ} 0 1 = cc in omega arith)
read_some (suc k) (v ∷ ws) w e = let more = read_some k ws w e in (omega (arith, more.0), more.1)

pub read_none : (k : ℕ) (ws : List ℕ) → None ≡ first (drop k ws) → (length ws ≤ k) × (get_or ws k 0 ≡ 0)
read_none zero [] e = (omega arith, refl)
read_none zero (v ∷ ws) e = absurd (let z : ◌≡◌ {A = ℕ} 0 1 = cc in omega arith)
read_none (suc k) [] e = (omega arith, refl)
read_none (suc k) (v ∷ ws) e = let more = read_none k ws e in (omega (arith, more.0), more.1)
