-- Two shapes are the same where their blocks are. What the shape of a file means: its length is that of the shape, a file without a shape
-- has the length of none, and every length of a shape gives that shape. Where s is 1, UL and UR are equally long, and the kind of record V
-- tells them apart. Besides, the file holds every block of its shape, and one as long as UL a record V.
use Prim.Native.Nat.{ℕ, ◌+◌, ◌*◌, ◌≤◌, ◌<◌}
use native.Mathlib.Nat.{mul-pos, mul-le-mul_left}
use native.Mathlib.Omega.{arith}
use mathlib.Core.Bool.{Bool, true, false, cond, ◌&&◌, beq, true≢false}
use mathlib.Core.List.{List}
use mathlib.Core.Logic.{◌↔◌}
use mathlib.Core.Path.{◌≡◌, refl, sym, ap, ap₂, subst, ◌∙◌}
use lib.Dec.{eqb}
use lib.ListN.{length}
use borrow.Author.Tests.{eqb-true, eq-eqb, ne_eqb}
use Rattle.delivery.specs.declared.shape.Shape.{Shape}
use Rattle.delivery.specs.declared.shape.Shape.TheVariants.{U, UL, UR, ULR}
use Rattle.delivery.specs.declared.shape.Block.TheVariants.{Lowers}
use Rattle.delivery.specs.Format.{record_bytes}
use Rattle.delivery.specs.Records.{kind_at, kind_of}
use Rattle.delivery.specs.Clauses.{HasRecord}
use Rattle.delivery.specs.Shapes.{has_lowers, has_means, same_shape, means_from, records_in, long_as, lowers_or_means, shape_of}
use Rattle.walks.specs.Order.{entries_in, rows_in}
use Rattle.walks.proofs.Exactly.{both}
use Rattle.std.specs.Prelude.{Option, Some, None}

-- ---- blocks

-- A test of two answers says whether they are the same.
pub alike : (a b : Bool) → (beq a b ≡ true) ↔ (a ≡ b)
alike true true = (λ e. refl, λ e. refl)
alike true false = (λ e. absurd (true≢false (sym e)), λ e. absurd (true≢false e))
alike false true = (λ e. absurd (true≢false (sym e)), λ e. absurd (true≢false (sym e)))
alike false false = (λ e. refl, λ e. refl)

-- A shape by its blocks.
abbrev by_blocks : Bool → Bool → Shape
by_blocks lowers means = cond lowers (cond means ULR UL) (cond means UR U)

blocks_tell : (h : Shape) → by_blocks (has_lowers h) (has_means h) ≡ h
blocks_tell U = refl
blocks_tell UL = refl
blocks_tell UR = refl
blocks_tell ULR = refl

pub same_blocks : (h k : Shape) → (same_shape h k ≡ true) ↔ ((has_lowers h ≡ has_lowers k) × (has_means h ≡ has_means k))
same_blocks h k = both _ _ (alike (has_lowers h) (has_lowers k)) (alike (has_means h) (has_means k))

pub same_shape_lem : (h k : Shape) → (same_shape h k ≡ true) ↔ (h ≡ k)
same_shape_lem h k = (
  λ e. let (lowers, means) = (same_blocks h k).0 e in sym (blocks_tell h) ∙ ap₂ by_blocks lowers means ∙ blocks_tell k,
  λ e. (same_blocks h k).1 (ap has_lowers e, ap has_means e),
)

-- ---- lengths

long_exactly : (s g : ℕ) (h : Shape) (d : List ℕ) → (long_as s g h d ≡ true) ↔ (length d ≡ record_bytes * records_in s g h)
unfolding long_as
long_exactly s g h d = (eqb-true _ _, eq-eqb _ _)

not_long : (s g : ℕ) (h : Shape) (d : List ℕ) → (length d ≡ record_bytes * records_in s g h → ⊥) → long_as s g h d ≡ false
unfolding long_as
not_long s g h d = ne_eqb _ _

-- With one state, UL and UR are equally long.
pub one_state_lem : (s g : ℕ) → s ≡ 1 → records_in s g UL ≡ records_in s g UR
unfolding records_in means_from
one_state_lem s g e = rw e (omega arith)

-- With more, no two shapes are.
lengths_differ : (s g : ℕ) (h k : Shape) → 1 < s → 0 < g → records_in s g h ≡ records_in s g k → h ≡ k
unfolding records_in means_from
lengths_differ s g h k hs hg = go h k (mul-pos (omega arith) hg) (mul-le-mul_left (s * g) hs)
  where
    go : (h k : Shape) → 0 < s * g → s * g * 2 ≤ s * g * s → records_in s g h ≡ records_in s g k → h ≡ k
    go U U some more e = refl
    go U UL some more e = absurd (omega arith)
    go U UR some more e = absurd (omega arith)
    go U ULR some more e = absurd (omega arith)
    go UL U some more e = absurd (omega arith)
    go UL UL some more e = refl
    go UL UR some more e = absurd (omega arith)
    go UL ULR some more e = absurd (omega arith)
    go UR U some more e = absurd (omega arith)
    go UR UL some more e = absurd (omega arith)
    go UR UR some more e = refl
    go UR ULR some more e = absurd (omega arith)
    go ULR U some more e = absurd (omega arith)
    go ULR UL some more e = absurd (omega arith)
    go ULR UR some more e = absurd (omega arith)
    go ULR ULR some more e = refl

-- ---- the choice of a shape

-- The first of the shapes that is as long as the file, k standing for UL.
choose : Bool → Bool → Bool → Bool → Shape → Option Shape
choose a b c e k = cond a (Some U) (cond b (Some k) (cond c (Some UR) (cond e (Some ULR) None)))

chosen : (P : Shape → Type 0) (a b c e : Bool) (k : Shape) → (a ≡ true → P U) → (b ≡ true → P k) → (c ≡ true → P UR) → (e ≡ true → P ULR)
    → (h : Shape) → choose a b c e k ≡ Some h → P h
unfolding choose
chosen P true b c e k f₁ f₂ f₃ f₄ h q = let r : U ≡ h = cc in subst P r (f₁ refl)
chosen P false true c e k f₁ f₂ f₃ f₄ h q = let r : k ≡ h = cc in subst P r (f₂ refl)
chosen P false false true e k f₁ f₂ f₃ f₄ h q = let r : UR ≡ h = cc in subst P r (f₃ refl)
chosen P false false false true k f₁ f₂ f₃ f₄ h q = let r : ULR ≡ h = cc in subst P r (f₄ refl)
chosen P false false false false k f₁ f₂ f₃ f₄ h q = cc

none_chosen : (a b c e : Bool) (k : Shape) → choose a b c e k ≡ None → (a ≡ false) × (b ≡ false) × (c ≡ false) × (e ≡ false)
unfolding choose
none_chosen true b c e k q = cc
none_chosen false true c e k q = cc
none_chosen false false true e k q = cc
none_chosen false false false true k q = cc
none_chosen false false false false k q = (refl, refl, refl, refl)

-- The file is as long as UL, and so it is as long as the shape that stands for UL.
long_as_either : (s g n : ℕ) (t : Bool) → n ≡ record_bytes * records_in s g UL → n ≡ record_bytes * records_in s g (cond (eqb s 1 && t) UR UL)
long_as_either s g n t e = go (eqb s 1) refl t
  where
    go : (b : Bool) → eqb s 1 ≡ b → (t : Bool) → n ≡ record_bytes * records_in s g (cond (b && t) UR UL)
    go true q true = e ∙ ap (λ k. record_bytes * k) (one_state_lem s g (eqb-true s 1 q))
    go true q false = e
    go false q t = e

pub shape_long : (s g : ℕ) (d : List ℕ) (h : Shape) → shape_of s g d ≡ Some h → length d ≡ record_bytes * records_in s g h
unfolding shape_of lowers_or_means choose
shape_long s g d =
    chosen (λ h. length d ≡ record_bytes * records_in s g h)
    (long_as s g U d) (long_as s g UL d) (long_as s g UR d) (long_as s g ULR d) _
    (long_exactly s g U d).0
    (λ e. long_as_either s g (length d) _ ((long_exactly s g UL d).0 e))
    (long_exactly s g UR d).0
    (long_exactly s g ULR d).0

none_long : (s g : ℕ) (d : List ℕ) → shape_of s g d ≡ None → (h : Shape) → long_as s g h d ≡ false
unfolding shape_of lowers_or_means choose
none_long s g d e = go (none_chosen (long_as s g U d) (long_as s g UL d) (long_as s g UR d) (long_as s g ULR d) _ e)
  where
    go : (long_as s g U d ≡ false) × (long_as s g UL d ≡ false) × (long_as s g UR d ≡ false) × (long_as s g ULR d ≡ false)
        → (h : Shape) → long_as s g h d ≡ false
    go n U = n.0
    go n UL = n.1
    go n UR = n.2
    go n ULR = n.3

pub shape_unknown : (s g : ℕ) (d : List ℕ) → (shape_of s g d ≡ None) ↔ ((h : Shape) → length d ≡ record_bytes * records_in s g h → ⊥)
unfolding shape_of lowers_or_means
shape_unknown s g d = (
  λ e h l. true≢false (sym ((long_exactly s g h d).1 l) ∙ none_long s g d e h),
  λ n. rw (not_long s g U d (n U), not_long s g UL d (n UL), not_long s g UR d (n UR), not_long s g ULR d (n ULR)),
)

pub shape_found : (s g : ℕ) (d : List ℕ) (h : Shape) → 1 < s → 0 < g → length d ≡ record_bytes * records_in s g h → shape_of s g d ≡ Some h
shape_found s g d h hs hg l = go (shape_of s g d) refl
  where
    go : (t : Option Shape) → shape_of s g d ≡ t → shape_of s g d ≡ Some h
    go (Some k) e =
        let same : records_in s g k ≡ records_in s g h = omega (arith, shape_long s g d k e) in
        e ∙ ap Some (lengths_differ s g k h hs hg same)
    go None e = absurd ((shape_unknown s g d).0 e h l)

-- ---- one state

uppers_shorter : (g : ℕ) → 0 < g → records_in 1 g U < records_in 1 g UL
unfolding records_in means_from
uppers_shorter g h = omega arith

UL_not_UR : Some UL ≡ Some UR → ⊥
UL_not_UR e = cc

module _ (g : ℕ) (d : List ℕ) (some : 0 < g) (long : length d ≡ record_bytes * records_in 1 g UL) where
  -- The kind of record V decides.
  by_kind : (t : Bool) → eqb (kind_at d (entries_in 1 g)) (kind_of Lowers) ≡ t → shape_of 1 g d ≡ Some (cond t UL UR)
  unfolding shape_of lowers_or_means
  by_kind true e = rw (not_long 1 g U d (λ q. omega (arith, uppers_shorter g some)), (long_exactly 1 g UL d).1 long, e)
  by_kind false e = rw (not_long 1 g U d (λ q. omega (arith, uppers_shorter g some)), (long_exactly 1 g UL d).1 long, e)

  pub one_state_lowers : (shape_of 1 g d ≡ Some UL) ↔ (kind_at d (entries_in 1 g) ≡ kind_of Lowers)
  one_state_lowers = (go (eqb (kind_at d (entries_in 1 g)) (kind_of Lowers)) refl, λ e. by_kind true (eq-eqb _ _ e))
    where
      go : (t : Bool) → eqb (kind_at d (entries_in 1 g)) (kind_of Lowers) ≡ t → shape_of 1 g d ≡ Some UL
          → kind_at d (entries_in 1 g) ≡ kind_of Lowers
      go true e q = eqb-true _ _ e
      go false e q = absurd (UL_not_UR (sym q ∙ by_kind false e))

  pub one_state_means : (shape_of 1 g d ≡ Some UR) ↔ (kind_at d (entries_in 1 g) ≡ kind_of Lowers → ⊥)
  one_state_means = (λ e q. UL_not_UR (sym (by_kind true (eq-eqb _ _ q)) ∙ e), λ n. by_kind false (ne_eqb _ _ n))

-- The other two lengths give their shape.
pub one_state_alone : (g : ℕ) (d : List ℕ) → 0 < g → length d ≡ record_bytes * records_in 1 g U → shape_of 1 g d ≡ Some U
unfolding shape_of
one_state_alone g d some long = rw ((long_exactly 1 g U d).1 long)

both_longer : (g : ℕ) → 0 < g → records_in 1 g UL < records_in 1 g ULR
unfolding records_in means_from
both_longer g h = omega arith

pub one_state_both : (g : ℕ) (d : List ℕ) → 0 < g → length d ≡ record_bytes * records_in 1 g ULR → shape_of 1 g d ≡ Some ULR
unfolding shape_of
one_state_both g d some long =
    rw (
      not_long 1 g U d (λ q. omega (arith, uppers_shorter g some, both_longer g some)),
      not_long 1 g UL d (λ q. omega (arith, both_longer g some)),
      not_long 1 g UR d (λ q. omega (arith, both_longer g some, one_state_lem 1 g refl)),
      (long_exactly 1 g ULR d).1 long,
    )

-- ---- a file as long as UL has a record V

pub UL_has_more : (s g : ℕ) (d : List ℕ) → 0 < s → 0 < g → long_as s g UL d ≡ true → HasRecord d (entries_in s g)
unfolding records_in means_from
UL_has_more s g d hs hg e = omega (arith, (long_exactly s g UL d).0 e, mul-pos (mul-pos hs hg) hs)

-- ---- the file holds every block of its shape

uppers_within : (s g : ℕ) (h : Shape) → entries_in s g ≤ records_in s g h
unfolding records_in means_from
uppers_within s g U = omega arith
uppers_within s g UL = omega arith
uppers_within s g UR = omega arith
uppers_within s g ULR = omega arith

lowers_within : (s g : ℕ) (h : Shape) → has_lowers h ≡ true → entries_in s g + entries_in s g ≤ records_in s g h
unfolding records_in means_from
lowers_within s g U e = absurd (true≢false (sym e))
lowers_within s g UL e = omega arith
lowers_within s g UR e = absurd (true≢false (sym e))
lowers_within s g ULR e = omega arith

means_within : (s g : ℕ) (h : Shape) → has_means h ≡ true → records_in s g h ≡ means_from s g h + rows_in s g
unfolding records_in
means_within s g h e = rw e

module _ (s g : ℕ) (d : List ℕ) (h : Shape) (of : shape_of s g d ≡ Some h) where
  pub uppers_fit : record_bytes * entries_in s g ≤ length d
  uppers_fit = omega (arith, shape_long s g d h of, uppers_within s g h)

  pub lowers_fit : has_lowers h ≡ true → record_bytes * (entries_in s g + entries_in s g) ≤ length d
  lowers_fit e = omega (arith, shape_long s g d h of, lowers_within s g h e)

  pub means_fit : has_means h ≡ true → record_bytes * (means_from s g h + rows_in s g) ≤ length d
  means_fit e = omega (arith, shape_long s g d h of, means_within s g h e)
