-- A table's items written one after the other: each one's offset among the offsets, its key and data behind them. Assumes nothing.
use Rattle.std.specs.Prelude.{ℕ, zero, suc, ◌+◌, ◌-◌, ◌*◌, ◌<◌, ◌≤◌, ◌≡◌, refl, List, [], ◌∷◌, ◌++◌, ℤ, pos, set}
use Rattle.std.proofs.Common.{sym, ap₂, ◌∙◌, append-nil, arith, length-append, length-set}
use Rattle.std.proofs.Math.Path.{ap}
use Rattle.std.proofs.Math.ListN.{length}
use Rattle.definitions.specs.Ints.{from_bits}
use Rattle.definitions.specs.Areas.{lay, lay_at}
use Rattle.definitions.specs.Tables.{Item, Table, body, offsets, written}
use Rattle.laws.specs.AreaLaws.{length-lay_at, lay_at-nothing, lay_at-set, lay_at-append}
use Rattle.laws.specs.TableForm.{body-append, offsets-append, length-offsets}

-- laying at two places that do not overlap commutes
lay_at-swap : {E : Type 0} (i j : ℕ) (xs ys area : List E) → i + length xs ≤ j → lay_at i xs (lay_at j ys area) ≡ lay_at j ys (lay_at i xs area)
lay_at-swap zero j [] ys area l = refl
lay_at-swap zero zero (x ∷ xs) ys area l = absurd (omega arith)
lay_at-swap zero (suc j) (x ∷ xs) ys [] l = refl
lay_at-swap {E} zero (suc j) (x ∷ xs) ys (a ∷ area) l = ap (λ (t : List E). x ∷ t) (lay_at-swap zero j xs ys area (omega arith))
lay_at-swap (suc i) zero xs ys area l = absurd (omega arith)
lay_at-swap (suc i) (suc j) xs ys [] l = refl
lay_at-swap {E} (suc i) (suc j) xs ys (a ∷ area) l = ap (λ (t : List E). a ∷ t) (lay_at-swap i j xs ys area (omega arith))

-- ---- items of a table of n, from the m-th on, with keys and data from place w on

-- an area with these items written
unfoldable pub wrote : ℕ → List ℤ → ℕ → ℕ → Table → List ℤ
wrote n area m w t = lay_at w (body t) (lay_at (2 + m) (offsets (4 * (w - (2 + n))) t) area)

-- there is room for them
pub record Room (n long m w : ℕ) (t : Table) : Type 0 where
  pub few : m + length t ≤ n
  pub behind : 2 + n ≤ w
  pub room : w + length (body t) ≤ long
  pub short : w + length (body t) ≤ 16384

pub length-wrote : (n : ℕ) (area : List ℤ) (m w : ℕ) (t : Table) → length (wrote n area m w t) ≡ length area
unfolding wrote
length-wrote n area m w t =
    length-lay_at w (body t) (lay_at (2 + m) (offsets (4 * (w - (2 + n))) t) area) ∙ length-lay_at (2 + m) (offsets (4 * (w - (2 + n))) t) area

-- nothing is written
pub wrote_nothing : (n : ℕ) (area : List ℤ) (m w : ℕ) → wrote n area m w [] ≡ area
unfolding wrote body offsets
wrote_nothing n area m w = lay_at-nothing w (lay_at (2 + m) [] area) ∙ lay_at-nothing (2 + m) area

-- the first of them, and then the others
pub wrote-append : (n : ℕ) (area : List ℤ) (m w : ℕ) (t u : Table) → m + length (t ++ u) ≤ n → 2 + n ≤ w → wrote n area m w (t ++ u) ≡ wrote n (wrote n area m w t) (m + length t) (w + length (body t)) u
unfolding wrote
wrote-append n area m w t u few behind =
    let o = 4 * (w - (2 + n)) in
    let O₁ = offsets o t in
    let O₂ = offsets (o + 4 * length (body t)) u in
    let n₁ : length O₁ ≡ length t = length-offsets o t in
    let n₂ : length O₂ ≡ length u = length-offsets (o + 4 * length (body t)) u in
    let lt = length-append t u in
    let e : 4 * (w + length (body t) - (2 + n)) ≡ o + 4 * length (body t) = omega arith in
    let i : 2 + m + length O₁ ≡ 2 + (m + length t) = omega arith in
    rw (body-append t u, offsets-append o t u, lay_at-append w (body t) (body u), lay_at-append (2 + m) O₁ O₂ area, e, i)
    (ap (lay_at (w + length (body t)) (body u)) (sym (lay_at-swap (2 + (m + length t)) w O₂ (body t) (lay_at (2 + m) O₁ area) (omega arith))))

-- one item: its offset, its key, its data
pub wrote_one : (n m w : ℕ) (x : Item) (o o₁ o₂ o₃ : List ℤ) → 2 + m < length o → w < length o → o₁ ≡ set o (2 + m) (pos (4 * (w - (2 + n)))) → o₂ ≡ set o₁ w (from_bits x.key) → o₃ ≡ lay_at (w + 1) x.values o₂ → o₃ ≡ wrote n o m w (x ∷ [])
unfolding wrote body offsets
wrote_one n m w x o o₁ o₂ o₃ l k e₁ e₂ e₃ =
    let n₁ : length o₁ ≡ length o = ap length e₁ ∙ length-set o (2 + m) (pos (4 * (w - (2 + n)))) in
    let f₁ : lay_at (2 + m) (pos (4 * (w - (2 + n))) ∷ []) o ≡ o₁ = lay_at-set (2 + m) (pos (4 * (w - (2 + n)))) [] o l ∙ (lay_at-nothing (2 + m + 1) (set o (2 + m) (pos (4 * (w - (2 + n))))) ∙ sym e₁) in
    e₃ ∙ (ap (lay_at (w + 1) x.values) e₂ ∙ (sym (lay_at-set w (from_bits x.key) x.values o₁ (omega arith)) ∙ rw (f₁, append-nil x.values)))

-- ---- one part behind the other

-- all was to be written into area₀; left remains, to be written into area
pub record Writing (n : ℕ) (area₀ : List ℤ) (m₀ w₀ : ℕ) (all : Table) (area : List ℤ) (m w : ℕ) (left : Table) : Type 0 where
  pub long : length area ≡ length area₀
  pub items : m + length left ≡ m₀ + length all
  pub ints : w + length (body left) ≡ w₀ + length (body all)
  pub behind : w₀ ≤ w
  pub same : wrote n area m w left ≡ wrote n area₀ m₀ w₀ all

pub writes_start : (n : ℕ) (area : List ℤ) (m w : ℕ) (all : Table) → Writing n area m w all area m w all
writes_start n area m w all = record { long = refl; items = refl; ints = refl; behind = omega arith; same = refl }

-- its first items are written
pub writes-first : (n : ℕ) (area : List ℤ) (m w : ℕ) (all : Table) → Room n (length area) m w all → (area' : List ℤ) (m' w' : ℕ) (t rest : Table) → all ≡ t ++ rest → area' ≡ wrote n area m w t → m' ≡ m + length t → w' ≡ w + length (body t) → Writing n area m w all area' m' w' rest
writes-first n area m w all r area' m' w' t rest e f g h =
    let a : length all ≡ length t + length rest = ap length e ∙ length-append t rest in
    let b : length (body all) ≡ length (body t) + length (body rest) = ap (λ (l : Table). length (body l)) e ∙ (ap length (body-append t rest) ∙ length-append (body t) (body rest)) in
    record {
      long = ap length f ∙ length-wrote n area m w t;
      items = omega arith;
      ints = omega arith;
      behind = omega arith;
      same = rw (f, g, h, e) (sym (wrote-append n area m w t rest (omega (arith, r.few, length-append t rest)) r.behind));
    }

module _ {n : ℕ} {area₀ : List ℤ} {m₀ w₀ : ℕ} {all : Table} {area : List ℤ} {m w : ℕ} {left : Table} (s : Writing n area₀ m₀ w₀ all area m w left) where
  -- and then more of it
  pub writes_then : {area' : List ℤ} {m' w' : ℕ} {rest : Table} → Writing n area m w left area' m' w' rest → Writing n area₀ m₀ w₀ all area' m' w' rest
  writes_then t =
      record { long = t.long ∙ s.long; items = t.items ∙ s.items; ints = t.ints ∙ s.ints; behind = omega (arith, s.behind, t.behind); same = t.same ∙ s.same }

  -- there is room for what is left
  pub writes-room : Room n (length area₀) m₀ w₀ all → Room n (length area) m w left
  writes-room r =
      record { few = omega (arith, s.items, r.few); behind = omega (arith, s.behind, r.behind); room = omega (arith, s.ints, s.long, r.room); short = omega (arith, s.ints, r.short) }

  -- all of it is written
  pub writes_end : left ≡ [] → (area ≡ wrote n area₀ m₀ w₀ all) × (m ≡ m₀ + length all) × (w ≡ w₀ + length (body all))
  unfolding body
  writes_end e =
      let a : length left ≡ 0 = ap length e in
      let b : length (body left) ≡ 0 = ap (λ (l : Table). length (body l)) e in
      (sym (wrote_nothing n area m w) ∙ (ap (wrote n area m w) (sym e) ∙ s.same), omega (arith, s.items), omega (arith, s.ints))

-- ---- a table in two parts

-- all items, from the first on
wrote-front : (n : ℕ) (area : List ℤ) (t : Table) → wrote n area 0 (2 + n) t ≡ lay_at (2 + n) (body t) (lay_at 2 (offsets 0 t) area)
unfolding wrote
wrote-front n area t =
    let z : 4 * (2 + n - (2 + n)) ≡ 0 = omega arith in
    ap (λ (k : ℕ). lay_at (2 + n) (body t) (lay_at 2 (offsets k t) area)) z

-- the header, then one part of the items, then the other
pub table-written : (o o₁ o₂ o₃ : List ℤ) (n m w : ℕ) (t u : Table) → n ≡ length t + length u
    → o₁ ≡ lay_at 0 (pos (4 * (length (body t) + length (body u))) ∷ pos n ∷ []) o → o₂ ≡ wrote n o₁ 0 (2 + n) t → m ≡ 0 + length t → w ≡ 2 + n + length (body t) → o₃ ≡ wrote n o₂ m w u → o₃ ≡ lay (written (t ++ u)) o
unfolding written
table-written o o₁ o₂ o₃ n m w t u en e₁ e₂ em ew e₃ =
    let H = pos (4 * (length (body t) + length (body u))) ∷ pos n ∷ [] in
    let O = offsets 0 (t ++ u) in
    let B = body (t ++ u) in
    let lt = length-append t u in
    let f : o₃ ≡ wrote n o₁ 0 (2 + n) (t ++ u) = e₃ ∙ rw (em, ew, e₂) (sym (wrote-append n o₁ 0 (2 + n) t u (omega arith) (omega arith))) in
    let g = wrote-front n o₁ (t ++ u) in
    let i : 2 + length O ≡ 2 + n = omega (arith, length-offsets 0 (t ++ u)) in
    let h : lay_at (2 + n) B (lay_at 2 O o₁) ≡ lay_at 2 (O ++ B) o₁ = ap (λ (k : ℕ). lay_at k B (lay_at 2 O o₁)) (sym i) ∙ sym (lay_at-append 2 O B o₁) in
    let k : lay_at 2 (O ++ B) o₁ ≡ lay_at 0 (H ++ (O ++ B)) o = ap (lay_at 2 (O ++ B)) e₁ ∙ sym (lay_at-append 0 H (O ++ B) o) in
    let v : length (body (t ++ u)) ≡ length (body t) + length (body u) = ap length (body-append t u) ∙ length-append (body t) (body u) in
    let q : length (t ++ u) ≡ n = lt ∙ sym en in
    let w' : H ++ (O ++ B) ≡ written (t ++ u) = ap₂ (λ (x y : ℕ). pos (4 * x) ∷ pos y ∷ O ++ B) (sym v) (sym q) in
    f ∙ (g ∙ (h ∙ (k ∙ ap (λ (l : List ℤ). lay l o) w')))
