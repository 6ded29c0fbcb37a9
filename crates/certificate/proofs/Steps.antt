-- Steps of the code, over plain values: what it may take for granted of an accepted model and of numbers in range, and how the outcomes of
-- its parts, found one after the other, make the outcome of all tests.
use Prim.Native.Nat.{ℕ, ◌+◌, ◌-◌, ◌*◌, ◌≤◌}
use native.Mathlib.Omega.{arith}
use mathlib.Core.Bool.{Bool, true, false, cond}
use mathlib.Core.List.{List, ◌++◌, append_assoc}
use mathlib.Core.Path.{◌≡◌, refl, sym, ap, ap₂, ◌∙◌}
use lib.IntN.{pos}
use lib.ListN.{length, take, drop, length-take, length-drop}
use lib.Seq.{take_all}
use Rattle.ppda.specs.Units.{most_chance, most_mean}
use Rattle.delivery.specs.Format.{record_bytes}
use Rattle.outcome.specs.declared.Reason.TheVariants.{NoShape}
use Rattle.outcome.specs.Tests.{first}
use Rattle.walks.specs.Lists.{each}
use Rattle.outcome.proofs.Tests.{first_empty, first_refused, first_rest}
use Rattle.ppda.specs.Live.{alive}
use Rattle.model.specs.declared.sizes.Sizes.{Sizes}
use Rattle.model.specs.Records.{states_of, symbols_of}
use Rattle.model.specs.Sizes.{sizes_of}
use Rattle.model.specs.Rules.{rules_of}
use Rattle.wellformed.specs.Verdict.{model_tests, model_verdict}
use Rattle.delivery.specs.declared.shape.Shape.{Shape}
use Rattle.delivery.specs.Shapes.{has_lowers, has_means, means_from, shape_of}
use Rattle.walks.specs.Order.{entries_in, rows_in, each_entry, each_row}
use Rattle.delivery.specs.Numbers.{uppers_of}
use Rattle.layout.specs.Layout.{layout_tests}
use Rattle.delivery.specs.Clauses.{Within}
use Rattle.live.specs.Clauses.{ExitsOf, exit_marks}
use Rattle.model.specs.Clauses.{Sized}
use Rattle.model.proofs.Accepted.{sized_model}
use Rattle.ppda.proofs.Vectors.{margin_same}
use Rattle.inequalities.specs.Inequalities.{dead_tests, below_tests, lower_tests}
use Rattle.inequalities.specs.declared.sides.Side.TheVariants.{Upper, StrictUpper, Lower}
use Rattle.inequalities.specs.Clauses.{dead_at, below_at, side_at, mean_at}
use Rattle.shares.specs.Clauses.{least_share}
use Rattle.verdict.specs.Verdict.{number_tests, shaped_tests, delivery_tests, verdict}
use Rattle.verdict.specs.Accepted.{UppersRight}
use Rattle.certificate.specs.Clauses.{RestRead, means_block, rest_means, rest_tests, dead_part, upper_part, lower_part}
use Rattle.certificate.specs.Margin.{margin_of, shown_margin}
use Rattle.certificate.specs.Shown.{shape_in}
use Rattle.verdict.proofs.Accepted.{delivery_accepted}
use Rattle.certificate.proofs.Blocks.{itself, dead_same, below_same, lower_same, dead_by_entry, below_by_number, uppers_by_side, lowers_by_side, means_by_row, part_same}
use Rattle.certificate.proofs.Rest.{uppers_within, uppers_read, rest_read, rest_same, numbers_by_rest}
use Rattle.certificate.proofs.Shares.{least_share_lem}
use Rattle.outcome.specs.Outcomes.{Outcome, Accepted, Refused}
use Rattle.std.specs.Prelude.{Option, Some, None, Ok, Err}
use Rattle.std.specs.Result.{result_ok}
use Rattle.outcome.specs.declared.Refusal.{Refusal}

-- ---- an accepted model and its sizes

-- The model of an accepted delivery is accepted.
pub sized_by_verdict : {b : List ℕ} {n : Sizes} (d : List ℕ) → verdict b d ≡ Accepted → n ≡ sizes_of b → Sized b n.states n.symbols
sized_by_verdict {b} d accepted same =
    record { file = ((delivery_accepted b d).0 accepted).model; states = ap (λ (n : Sizes). n.states) same; symbols = ap (λ (n : Sizes). n.symbols) same }

-- ---- numbers in range, by how many records n the code takes

-- The part of a file from record n on is all that follows the first n records.
pub part_from : (d : List ℕ) {n m : ℕ} → n ≡ m → take (length d - record_bytes * n) (drop (record_bytes * n) d) ≡ drop (record_bytes * m) d
part_from d {n} e = take_all (length d - record_bytes * n) (drop (record_bytes * n) d) (omega (arith, length-drop (record_bytes * n) d)) ∙ ap (λ k. drop (record_bytes * k) d) e

-- A right layout has its uppers and its rest in range.
module _ (s g : ℕ) (d : List ℕ) {h : Shape} (shape : shape_of s g d ≡ Some h) (layout : first (layout_tests s g h d) ≡ Accepted)
    {n : ℕ} (e : n ≡ entries_in s g) where
  pub uppers_in_range : Within (take (record_bytes * n) d) (entries_in s g) most_chance
  uppers_in_range = rw e (uppers_read s g d shape layout)

  pub rest_in_range : RestRead s g h (take (length d - record_bytes * n) (drop (record_bytes * n) d))
  rest_in_range = rw (part_from d e) (rest_read s g d shape layout)

-- An accepted delivery has its uppers in range.
pub accepted_in_range : {b : List ℕ} {s g n : ℕ} (d : List ℕ) {h : Shape} → Sized b s g → shape_of s g d ≡ Some h → verdict b d ≡ Accepted
    → n ≡ entries_in s g → Within (take (record_bytes * n) d) (entries_in s g) most_chance
unfolding uppers_of
accepted_in_range {b} {s} {g} d sized shape accepted e =
    let uppers : UppersRight b s g d = rw (sized.states, sized.symbols) ((delivery_accepted b d).0 accepted).delivery.uppers in
    rw e (uppers_within s g d shape (λ p z q hp hz hq. (uppers.due p z q hp hz hq).most))

-- A rest with its lowers in range has them, and one in range has its block of mean steps in range.
module _ (s g : ℕ) (rest : List ℕ) (read : Within (take (record_bytes * entries_in s g) rest) (entries_in s g) most_chance) {n : ℕ} (e : n ≡ entries_in s g)
  where
    pub lowers_whole : record_bytes * n ≤ length rest
    lowers_whole = omega (arith, read.whole, length-take (record_bytes * entries_in s g) rest)

    pub lowers_in_range : Within (take (record_bytes * n) rest) (entries_in s g) most_chance
    lowers_in_range = rw e read

module _ {s g : ℕ} {h : Shape} {rest : List ℕ} (read : RestRead s g h rest) (stand : has_means h ≡ true) where
  pub block_after_lowers : {n : ℕ} → n ≡ entries_in s g → has_lowers h ≡ true
      → Within (take (length rest - record_bytes * n) (drop (record_bytes * n) rest)) (rows_in s g) most_mean
  unfolding means_block
  block_after_lowers e lowers = rw (part_from rest e) (rw lowers at (read.means stand))

  pub block_alone : has_lowers h ≡ false → Within rest (rows_in s g) most_mean
  unfolding means_block
  block_alone lowers = rw lowers at (read.means stand)

-- ---- the outcome of each part

-- The lowers stand: the code takes the first V records of the rest.
module _ (s g : ℕ) (rest : List ℕ) {n : ℕ} (e : n ≡ entries_in s g) (t : Bool) (stand : t ≡ true) where
  abbrev block : List ℕ
  block = take (record_bytes * n) rest

  pub dead_found : (a : List ℕ) (o : Outcome) → o ≡ first (each_entry s g (dead_at s g a block n)) → o ≡ first (dead_part s g t a rest)
  dead_found a o found =
      rw stand (found ∙ ap first (dead_by_entry s g a block n
      ∙ dead_same n (itself (exit_marks g a)) (part_same s g rest e) ∙ ap (dead_tests s g (exit_marks g a) (uppers_of s g rest)) e))

  below_tests_lem : (u : List ℕ) → each n (below_at block u n) ≡ below_tests s g (uppers_of s g rest) (uppers_of s g u)
  below_tests_lem u = rw e (below_by_number s g _ u ∙ below_same (part_same s g rest refl) (itself (uppers_of s g u)))

  lower_tests_lem : {b : List ℕ} → Sized b s g → (a : List ℕ)
      → each_entry s g (side_at Lower b s g a block) ≡ lower_tests (rules_of b) s g (uppers_of s g rest)
  lower_tests_lem {b} sized a = rw e (lowers_by_side b s g a _ ∙ lower_same (sized_model sized) (part_same s g rest refl))

  pub below_refused : (b u : List ℕ) (o : Outcome) {why : Refusal} → o ≡ first (each n (below_at block u n))
      → o ≡ Err why → o ≡ first (lower_part b s g t u rest)
  below_refused b u o found refused = rw stand (first_refused _ _ o (found ∙ ap first (below_tests_lem u)) refused)

  pub lower_found : {b : List ℕ} → Sized b s g → (a u : List ℕ) (o x : Outcome) → x ≡ first (each n (below_at block u n)) → x ≡ Accepted
      → o ≡ first (each_entry s g (side_at Lower b s g a block)) → o ≡ first (lower_part b s g t u rest)
  lower_found sized a u o x below passed found =
      rw stand (first_rest _ _ o x (below ∙ ap first (below_tests_lem u)) passed (found ∙ ap first (lower_tests_lem sized a)))

pub upper_found : (b : List ℕ) (s g : ℕ) (t : Bool) (a u : List ℕ) (o : Outcome)
    → o ≡ first (each_entry s g (side_at (cond t StrictUpper Upper) b s g a u)) → o ≡ first (upper_part b s g t a u)
upper_found b s g t a u o found = found ∙ ap first (uppers_by_side b s g t a u)

-- 27 by the rest of the file.
module _ (b : List ℕ) (s g : ℕ) (h : Shape) (u rest : List ℕ) where
  pub no_means : has_means h ≡ false → Accepted ≡ first (rest_means b s g h (uppers_of s g u) rest)
  unfolding rest_means
  no_means e = rw e (sym first_empty)

  module _ {n : ℕ} (o : Outcome) (stand : has_means h ≡ true) (e : n ≡ entries_in s g) where
    pub means_after_lowers : has_lowers h ≡ true
        → o ≡ first (each_row s g (mean_at b s g u (take (length rest - record_bytes * n) (drop (record_bytes * n) rest)) (n + n)))
        → o ≡ first (rest_means b s g h (uppers_of s g u) rest)
    unfolding rest_means means_block means_from
    means_after_lowers lowers found = rw (stand, lowers) ((rw (part_from rest e, e) at found) ∙ ap first (means_by_row b s g u _ _))

    pub means_alone : has_lowers h ≡ false → o ≡ first (each_row s g (mean_at b s g u rest n))
        → o ≡ first (rest_means b s g h (uppers_of s g u) rest)
    unfolding rest_means means_block means_from
    means_alone lowers found = rw (stand, lowers) ((rw e at found) ∙ ap first (means_by_row b s g u _ _))

-- ---- the parts in a row: the first that refuses decides

module _ (b : List ℕ) (s g : ℕ) (h : Shape) (a u rest : List ℕ) where
  abbrev t : Bool
  t = has_lowers h

  parts : rest_tests b s g h (exit_marks g a) (uppers_of s g u) rest
      ≡ dead_part s g t a rest ++ (upper_part b s g t a u ++ (lower_part b s g t u rest ++ rest_means b s g h (uppers_of s g u) rest))
  unfolding rest_tests
  parts = rw append_assoc

  pub dead_decides : (o : Outcome) {why : Refusal} → o ≡ first (dead_part s g t a rest) → o ≡ Err why
      → o ≡ first (rest_tests b s g h (exit_marks g a) (uppers_of s g u) rest)
  dead_decides o found refused = rw parts (first_refused _ _ o found refused)

  module _ {x : Outcome} (dead : x ≡ first (dead_part s g t a rest)) (dead-passed : x ≡ Accepted) where
    pub uppers_decide : (o : Outcome) {why : Refusal} → o ≡ first (upper_part b s g t a u) → o ≡ Err why
        → o ≡ first (rest_tests b s g h (exit_marks g a) (uppers_of s g u) rest)
    uppers_decide o found refused = rw parts (first_rest _ _ o x dead dead-passed (first_refused _ _ o found refused))

    module _ {y : Outcome} (uppers : y ≡ first (upper_part b s g t a u)) (uppers-passed : y ≡ Accepted) where
      pub lowers_decide : (o : Outcome) {why : Refusal} → o ≡ first (lower_part b s g t u rest) → o ≡ Err why
          → o ≡ first (rest_tests b s g h (exit_marks g a) (uppers_of s g u) rest)
      lowers_decide o found refused =
          rw parts (first_rest _ _ o x dead dead-passed (first_rest _ _ o y uppers uppers-passed (first_refused _ _ o found refused)))

      pub means_decide : (o z : Outcome) → z ≡ first (lower_part b s g t u rest) → z ≡ Accepted
          → o ≡ first (rest_means b s g h (uppers_of s g u) rest) → o ≡ first (rest_tests b s g h (exit_marks g a) (uppers_of s g u) rest)
      means_decide o z lowers lowers-passed found =
          rw parts
          (first_rest _ _ o x dead dead-passed (first_rest _ _ o y uppers uppers-passed (first_rest _ _ o z lowers lowers-passed found)))

-- 23 in the uppers, then the rest: a lists the marks of the model b by rows.
module _ {b : List ℕ} {s g : ℕ} (sized : Sized b s g) (h : Shape) (d : List ℕ) {a : List ℕ} {n : ℕ} (e : n ≡ entries_in s g)
    (marks : ExitsOf s g (alive (rules_of b) s g) a) where
  abbrev uppers : List ℕ
  uppers = take (record_bytes * n) d

  number_parts : number_tests b s g h d
      ≡ each_entry s g (dead_at s g a uppers 0)
      ++ rest_tests b s g h (exit_marks g a) (uppers_of s g uppers) (take (length d - record_bytes * n) (drop (record_bytes * n) d))
  number_parts =
      rw (part_from d e)
      (numbers_by_rest b (sized_model sized) h d
      ∙ sym (ap₂ ◌++◌ (dead_by_entry s g a uppers 0 ∙ dead_same 0 marks.marks (part_same s g d e))
      (rest_same b (sized_model sized) h _ marks.marks (part_same s g d e))))

  pub dead_uppers_decide : (o : Outcome) {why : Refusal} → o ≡ first (each_entry s g (dead_at s g a uppers 0))
      → o ≡ Err why → o ≡ first (number_tests b s g h d)
  dead_uppers_decide o found refused = rw number_parts (first_refused _ _ o found refused)

  pub rest_decides : (o x : Outcome) → x ≡ first (each_entry s g (dead_at s g a uppers 0)) → x ≡ Accepted
      → o ≡ first (rest_tests b s g h (exit_marks g a) (uppers_of s g uppers) (take (length d - record_bytes * n) (drop (record_bytes * n) d)))
      → o ≡ first (number_tests b s g h d)
  rest_decides o x dead passed found = rw number_parts (first_rest _ _ o x dead passed found)

-- ---- the verdict

module _ (b d : List ℕ) where
  pub model_decides : (o : Outcome) {why : Refusal} → o ≡ model_verdict b → o ≡ Err why → o ≡ verdict b d
  unfolding verdict model_verdict
  model_decides o = first_refused (model_tests b) (delivery_tests b d) o

  pub delivery_decides : (o x : Outcome) {n : Sizes} {h : Option Shape} → x ≡ model_verdict b → x ≡ Accepted → n ≡ sizes_of b
      → h ≡ shape_of n.states n.symbols d → o ≡ first (shaped_tests b n.states n.symbols h d) → o ≡ verdict b d
  unfolding verdict model_verdict delivery_tests
  delivery_decides o x model passed same shape found =
      first_rest (model_tests b) _ o x model passed (rw (shape, same) at found)

-- 20.
pub no_shape : (b : List ℕ) (s g : ℕ) (d : List ℕ) → Refused NoShape 0 (pos 0) ≡ first (shaped_tests b s g None d)
unfolding first shaped_tests
no_shape b s g d = refl

-- ---- the shape and the margin that are shown

-- An outcome as an option: there for acceptance, and none for a refusal.
pub accepted_some : (o : Outcome) {u : Unit {0}} → Some u ≡ result_ok o → o ≡ Accepted
accepted_some (Ok u) e = refl
accepted_some (Err why) e = cc

pub refused_none : (o : Outcome) → None ≡ result_ok o → (why : Refusal) × (o ≡ Err why)
refused_none (Ok u) e = cc
refused_none (Err why) e = (why, refl)

module _ (b d : List ℕ) where
  pub shape_of_refused : {why : Refusal} → model_verdict b ≡ Err why → None ≡ shape_in b d
  unfolding shape_in
  shape_of_refused e = rw e

  pub shape_of_accepted : {n : Sizes} {h : Option Shape} → model_verdict b ≡ Accepted → n ≡ sizes_of b → h ≡ shape_of n.states n.symbols d
      → h ≡ shape_in b d
  unfolding shape_in
  shape_of_accepted e same shape = rw e (rw same at shape)

  pub none_if_refused : {why : Refusal} → verdict b d ≡ Err why → None ≡ shown_margin b d
  unfolding shown_margin
  none_if_refused e = rw e

  module _ {n : Sizes} (accepted : verdict b d ≡ Accepted) (same : n ≡ sizes_of b) where
    -- The shape by the sizes found is that of the definition.
    shape_by_lem : {t : Option Shape} → shape_of n.states n.symbols d ≡ t → shape_of (states_of b) (symbols_of b) d ≡ t
    shape_by_lem shape = rw same at shape

    pub none_if_unknown : shape_of n.states n.symbols d ≡ None → None ≡ shown_margin b d
    unfolding shown_margin
    none_if_unknown shape = rw (accepted, shape_by_lem shape)

    pub none_without_lowers : {h : Shape} → shape_of n.states n.symbols d ≡ Some h → has_lowers h ≡ false → None ≡ shown_margin b d
    unfolding shown_margin
    none_without_lowers shape has = rw (accepted, shape_by_lem shape, has)

    pub shown_with_lowers : {h : Shape} {m : ℕ} → shape_of n.states n.symbols d ≡ Some h → has_lowers h ≡ true → m ≡ margin_of b d
        → Some m ≡ shown_margin b d
    unfolding shown_margin
    shown_with_lowers shape has found = rw (accepted, shape_by_lem shape, has, found)

module _ {b : List ℕ} {s g : ℕ} (sized : Sized b s g) where
  -- The margin of a block of uppers, where a lists the live marks of the model b by rows.
  pub margin_found : (u : List ℕ) {a : List ℕ} → ExitsOf s g (alive (rules_of b) s g) a → {m : ℕ} → m ≡ least_share b s g a u → m ≡ margin_of b u
  unfolding margin_of
  margin_found u {a} marks found = found ∙ rw (← sized.states, ← sized.symbols) (least_share_lem b s g a u marks.marks)

  -- That of the first V records of a delivery is the delivery's.
  pub margin_of_part : (d : List ℕ) {n m : ℕ} → n ≡ entries_in s g → m ≡ margin_of b (take (record_bytes * n) d) → m ≡ margin_of b d
  unfolding margin_of
  margin_of_part d e found =
      found ∙ rw (← sized.states, ← sized.symbols) (margin_same (sized_model sized) _ _ (part_same s g d e))
