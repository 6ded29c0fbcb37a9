-- The verdict accepts exactly a model file with a delivery file for it, a refusal is that of the first test that fails, and its shortfall
-- is never above zero.
use Prim.Native.Nat.{ℕ, zero, suc, ◌-◌, ◌*◌, ◌≤◌, ◌<◌}
use native.Mathlib.Omega.{arith}
use mathlib.Core.Bool.{Bool, true, false, not, cond, ◌&&◌, ◌||◌, true≢false, and-eq-true_iff}
use mathlib.Core.List.{List, [], ◌∷◌, ◌++◌}
use mathlib.Core.Logic.{◌↔◌, ◌⊎◌, inl, inr}
use mathlib.Core.Path.{◌≡◌, refl, sym, ap, ◌∙◌}
use lib.Dec.{leb, ltb}
use lib.IntN.{ℤ, pos, negsuc, sub_ℕ, pos-ne-negsuc}
use borrow.Author.Tests.{ltb-true, ltb-false, leb-true, leb-false, eqb-true, not-true, not-false, le-ltb, lt-leb, eq-eqb}
use Rattle.ppda.specs.Units.{chance_unit, sum_unit}
use Rattle.outcome.specs.declared.Reason.{Reason}
use Rattle.outcome.specs.Tests.{Test, plain, refusal, first, Passed, FirstFailure}
use Rattle.walks.specs.Lists.{each}
use Rattle.walks.proofs.Exactly.{not_lt_exactly, not_exactly, and_fails, or_fails}
use Rattle.outcome.proofs.Tests.{accepted_exactly, refused_exactly, first_failure, first_stands, passed_append}
use Rattle.walks.specs.Sums.{In}
use Rattle.ppda.specs.Rules.{Rule, IsModel}
use Rattle.ppda.specs.Equations.{f}
use Rattle.ppda.specs.Live.{is_live, alive, Live}
use Rattle.ppda.specs.Bounds as Bounds
use Rattle.walks.proofs.Lists.{in_append_cases, in_append_right}
use Rattle.ppda.proofs.Live.{live_by_rounds}
use Rattle.model.specs.Records.{records_of, states_of, symbols_of}
use Rattle.model.specs.Rules.{rules_of}
use Rattle.wellformed.specs.Verdict as model
use Rattle.wellformed.specs.Verdict.{row_tests, rows_tests, model_tests, model_verdict}
use Rattle.model.specs.Accepted.{ModelFile}
use Rattle.model.proofs.Accepted.{is_model_lem}
use Rattle.wellformed.proofs.Accepted.{model_accepted}
use Rattle.delivery.specs.declared.shape.Block.{Block}
use Rattle.delivery.specs.declared.shape.Block.TheVariants.{Uppers, Lowers, Means}
use Rattle.delivery.specs.declared.shape.Shape.{Shape}
use Rattle.walks.specs.Order.{rows_in, AtEntries, each_entry, each_row}
use Rattle.delivery.specs.Shapes.{has_lowers, has_means, shape_of}
use Rattle.delivery.specs.Numbers.{uppers_of, lowers_of, means_of}
use Rattle.layout.specs.Layout.{only_if, record_tests, upper_records, lower_records, mean_records, layout_tests}
use Rattle.delivery.proofs.Due.{due_exactly, range_exactly, AtRecords}
use Rattle.layout.proofs.Says.{Says, says_append, says_only, says_entries, says_rows, says_one, says_layout}
use Rattle.inequalities.specs.Inequalities.{dead_test, upper_test, below_test, lower_test, mean_test, dead_tests, upper_tests, below_tests, lower_tests, mean_tests}
use Rattle.verdict.specs.Verdict.{number_tests, shaped_tests, delivery_tests, verdict}
use Rattle.verdict.specs.Accepted.{RecordDue, UppersRight, LowersRight, MeansRight, DeliveryFile, RightFiles}
use Rattle.outcome.specs.Outcomes.{Outcome, Accepted, Refused}
use Rattle.outcome.specs.declared.Refusal.{Refusal}
use Rattle.std.specs.Prelude.{Option, Some, None, Err}

-- ---- each test

says_due : (d : List ℕ) (i : ℕ) (k : Block) (p z q : ℕ) → Says (record_tests d i k p z q) (RecordDue d i k p z q)
unfolding record_tests
says_due d i k p z q =
    record {
      exactly = (
        λ h. let b = (due_exactly d i k p z q).0 (not-false _ h.0) in
            let v = (range_exactly d i k).0 (not-false _ h.1.0) in
            record { kind = b.0; state = b.1.0; symbol = b.1.1.0; exit = b.1.1.1; least = v.0; most = v.1 },
        λ r. (
          (not_exactly _).1 ((due_exactly d i k p z q).1 (r.kind, (r.state, (r.symbol, r.exit)))),
          ((not_exactly _).1 ((range_exactly d i k).1 (r.least, r.most)), tt),
        ),
      );
    }

says_dead : (t : Bool) (v i : ℕ) → Says (dead_test t v i ∷ []) (t ≡ false → v ≡ 0)
unfolding dead_test
says_dead t v i =
    says_one (
      λ h e. eqb-true v 0 (not-false _ ((and_fails _ _).0 h (ap not e))),
      λ h. (and_fails _ _).1 (λ e. (not_exactly _).1 (eq-eqb v 0 (h (not-true t e)))),
    )

-- What 24 asks of an entry that is live or not, with the upper u and f(u) = y.
abbrev UpperRight : Bool → Bool → ℕ → ℕ → Type 0
UpperRight lowers t u y = (y ≤ u * sum_unit) × (lowers ≡ true → t ≡ true → y < u * sum_unit)

says_upper : (lowers t : Bool) (u y i : ℕ) → Says (upper_test lowers t u y i ∷ []) (UpperRight lowers t u y)
unfolding upper_test
says_upper lowers t u y i =
    says_one (
      λ h. let p = (or_fails _ _).0 h in
          (ltb-false _ _ p.0, λ e live. leb-false _ _ ((and_fails _ _).0 ((and_fails _ _).0 p.1 e) live)),
      λ h. (or_fails _ _).1
          (le-ltb _ _ h.0, (and_fails _ _).1 (λ e. (and_fails _ _).1 (λ live. lt-leb _ _ (h.1 e live)))),
    )

says_below : (l u i : ℕ) → Says (below_test l u i ∷ []) (l ≤ u)
unfolding below_test
says_below l u i = says_one (not_lt_exactly u l)

says_lower : (l y i : ℕ) → Says (lower_test l y i ∷ []) (l * sum_unit ≤ y)
unfolding lower_test
says_lower l y i = says_one (not_lt_exactly y (l * sum_unit))

says_mean : (r y i : ℕ) → Says (mean_test r y i ∷ []) (y ≤ r * sum_unit)
unfolding mean_test
says_mean r y i = says_one (not_lt_exactly (r * sum_unit) y)

-- ---- the tests of a delivery

-- What 24 asks of every entry, by whether lowers stand.
abbrev UppersHold : List ℕ → ℕ → ℕ → Bool → List ℕ → Type 0
UppersHold b s g lowers d =
    AtEntries s g (λ p z q.
    UpperRight lowers (is_live (alive (rules_of b) s g p z q)) (uppers_of s g d p z q) (f (rules_of b) s chance_unit (uppers_of s g d) p z q))

-- What 21 and 22 ask of a file of shape h: each record is due.
abbrev pub LayoutRight : ℕ → ℕ → Shape → List ℕ → Type 0
LayoutRight s g h d = AtRecords s g h (RecordDue d)

pub layout_right : (s g : ℕ) (h : Shape) (d : List ℕ) → first (layout_tests s g h d) ≡ Accepted → LayoutRight s g h d
layout_right s g h d e = (says_layout s g h d (says_due d)).exactly.0 ((accepted_exactly (layout_tests s g h d)).0 e)

module _ (b : List ℕ) (s g : ℕ) (h : Shape) (d : List ℕ) where
  says_numbers : Says (number_tests b s g h d)
      (AtEntries s g (λ p z q. is_live (alive (rules_of b) s g p z q) ≡ false → uppers_of s g d p z q ≡ 0)
      × ((has_lowers h ≡ true → AtEntries s g (λ p z q. is_live (alive (rules_of b) s g p z q) ≡ false → lowers_of s g d p z q ≡ 0))
      × (UppersHold b s g (has_lowers h) d
      × ((has_lowers h ≡ true → AtEntries s g (λ p z q. lowers_of s g d p z q ≤ uppers_of s g d p z q))
      × ((has_lowers h ≡ true
      → AtEntries s g (λ p z q. lowers_of s g d p z q * sum_unit ≤ f (rules_of b) s chance_unit (lowers_of s g d) p z q))
      × (has_means h ≡ true → Bounds.Means (rules_of b) s g (uppers_of s g d) (means_of s g h d)))))))
  unfolding number_tests dead_tests upper_tests below_tests lower_tests mean_tests
  says_numbers =
      says_append (says_entries (λ p z q. says_dead _ _ _))
      (says_append (says_only (has_lowers h) (says_entries (λ p z q. says_dead _ _ _)))
      (says_append (says_entries (λ p z q. says_upper (has_lowers h) _ _ _ _))
      (says_append (says_only (has_lowers h) (says_entries (λ p z q. says_below _ _ _)))
      (says_append (says_only (has_lowers h) (says_entries (λ p z q. says_lower _ _ _)))
      (says_only (has_means h) (says_rows (λ p z. says_mean _ _ _)))))))

-- ---- the live marks of a model by its runs

module _ {m : List Rule} {s g : ℕ} (model : IsModel s g m) {p z q : ℕ} (hp : p < s) (hz : z < g) (hq : q < s) where
  pub live_exactly : (is_live (alive m s g p z q) ≡ true) ↔ Live m p z q
  live_exactly = live_by_rounds m s g model p z q hp hz hq

  pub dead_exactly : (is_live (alive m s g p z q) ≡ false) ↔ (Live m p z q → ⊥)
  dead_exactly = (λ e l. true≢false (sym (live_exactly.1 l) ∙ e), λ n. go n (is_live (alive m s g p z q)) refl)
    where
      go : (Live m p z q → ⊥) → (t : Bool) → is_live (alive m s g p z q) ≡ t → t ≡ false
      go n true e = absurd (n (live_exactly.0 e))
      go n false e = refl

-- ---- the blocks of a delivery

-- Every block of a shape is right.
pub record BlocksRight (b : List ℕ) (s g : ℕ) (h : Shape) (d : List ℕ) : Type 0 where
  pub uppers : UppersRight b s g d
  pub lowers : has_lowers h ≡ true → LowersRight b s g d
  pub means : has_means h ≡ true → MeansRight b s g h d

module _ (b : List ℕ) (s g : ℕ) (model : IsModel s g (rules_of b)) (h : Shape) (d : List ℕ) where
  blocks_of_passed : Passed (layout_tests s g h d ++ number_tests b s g h d) → BlocksRight b s g h d
  blocks_of_passed passed =
      let (layout, numbers) = (says_append (says_layout s g h d (says_due d)) (says_numbers b s g h d)).exactly.0 passed in
      let (uppers, (lowers, means)) = layout in
      let (dead, (dead-lowers, (hold, (below, (lower, mean))))) = numbers in
      record {
        uppers = record {
          due = uppers;
          dead = λ p z q hp hz hq n. dead p z q hp hz hq ((dead_exactly model hp hz hq).1 n);
          upper = λ p z q hp hz hq. (hold p z q hp hz hq).0;
        };
        lowers = λ e. record {
          due = lowers e;
          dead = λ p z q hp hz hq n. dead-lowers e p z q hp hz hq ((dead_exactly model hp hz hq).1 n);
          strict = λ p z q hp hz hq l. (hold p z q hp hz hq).1 e ((live_exactly model hp hz hq).1 l);
          below = below e;
          lower = lower e;
        };
        means = λ e. record { due = means e; mean = mean e };
      }

  passed_of_blocks : BlocksRight b s g h d → Passed (layout_tests s g h d ++ number_tests b s g h d)
  passed_of_blocks r =
      (says_append (says_layout s g h d (says_due d)) (says_numbers b s g h d)).exactly.1 (
        (r.uppers.due, (λ e. (r.lowers e).due, λ e. (r.means e).due)),
        (
          λ p z q hp hz hq a. r.uppers.dead p z q hp hz hq ((dead_exactly model hp hz hq).0 a),
          (
            λ e p z q hp hz hq a. (r.lowers e).dead p z q hp hz hq ((dead_exactly model hp hz hq).0 a),
            (
              λ p z q hp hz hq. (
                r.uppers.upper p z q hp hz hq,
                λ e a. (r.lowers e).strict p z q hp hz hq ((live_exactly model hp hz hq).0 a),
              ),
              (λ e. (r.lowers e).below, (λ e. (r.lowers e).lower, λ e. (r.means e).mean)),
            ),
          ),
        ),
      )

file_of_passed : (b d : List ℕ) → ModelFile b → Passed (delivery_tests b d) → (h : Shape) × DeliveryFile b d h
unfolding delivery_tests shaped_tests
file_of_passed b d m = go (shape_of (states_of b) (symbols_of b) d) refl
  where
    go : (t : Option Shape) → shape_of (states_of b) (symbols_of b) d ≡ t → Passed (shaped_tests b (states_of b) (symbols_of b) t d)
        → (h : Shape) × DeliveryFile b d h
    go (Some h) e passed =
        let r = blocks_of_passed b (states_of b) (symbols_of b) (is_model_lem b m) h d passed in
        (h, record { shape = e; uppers = r.uppers; lowers = r.lowers; means = r.means })
    go None e passed = absurd (true≢false passed.0)

passed_of_file : (b d : List ℕ) (h : Shape) → ModelFile b → DeliveryFile b d h → Passed (delivery_tests b d)
unfolding delivery_tests shaped_tests
passed_of_file b d h m r =
    rw r.shape
    (passed_of_blocks b (states_of b) (symbols_of b) (is_model_lem b m) h d
    (record { uppers = r.uppers; lowers = r.lowers; means = r.means }))

-- ---- the verdict

pub delivery_accepted : (b d : List ℕ) → (verdict b d ≡ Accepted) ↔ RightFiles b d
unfolding verdict model_verdict
delivery_accepted b d = (
  λ e. let passed = (passed_append (model_tests b) (delivery_tests b d)).0 ((accepted_exactly (model_tests b ++ delivery_tests b d)).0 e) in
      let m = (model_accepted b).0 ((accepted_exactly (model_tests b)).1 passed.0) in
      let (h, r) = file_of_passed b d m passed.1 in
      record { model = m; shaped = h; delivery = r },
  λ r. (accepted_exactly (model_tests b ++ delivery_tests b d)).1
      ((passed_append (model_tests b) (delivery_tests b d)).1
      ((accepted_exactly (model_tests b)).0 ((model_accepted b).1 r.model), passed_of_file b d r.shaped r.model r.delivery)),
)

-- A refusal is that of the first test that fails.
pub delivery_refused : (b d : List ℕ) (r : Reason) (i : ℕ) (k : ℤ) → verdict b d ≡ Refused r i k
    → (t : Test) × (FirstFailure (model_tests b ++ delivery_tests b d) t × (refusal t ≡ Refused r i k))
unfolding verdict
delivery_refused b d r i k = first_failure (model_tests b ++ delivery_tests b d) _

pub delivery_refuses : (b d : List ℕ) (t : Test) → FirstFailure (model_tests b ++ delivery_tests b d) t → verdict b d ≡ refusal t
unfolding verdict
delivery_refuses b d = refused_exactly (model_tests b ++ delivery_tests b d)

-- A refused model decides.
pub model_first : (b d : List ℕ) → (model_verdict b ≡ Accepted → ⊥) → verdict b d ≡ model_verdict b
unfolding verdict model_verdict
model_first b d = first_stands (model_tests b) (delivery_tests b d)

-- An accepted delivery has the shape of its file, and no other.
pub shaped_as : (b d : List ℕ) (x : RightFiles b d) (h : Shape) → shape_of (states_of b) (symbols_of b) d ≡ Some h → x.shaped ≡ h
shaped_as b d x h e = let q = x.delivery.shape in cc

pub same_shape_lem : (b d : List ℕ) (x y : RightFiles b d) → x.shaped ≡ y.shaped
same_shape_lem b d x y = shaped_as b d x y.shaped y.delivery.shape

-- ---- shortfalls

-- Where a test of the list fails, its shortfall is not above zero.
record Short (ts : List Test) : Type 0 where
  each_short : (t : Test) → In t ts → t.fails ≡ true → (n : ℕ) → t.shortfall ≡ pos (suc n) → ⊥

short_none : Short []
short_none = record { each_short = λ t i. absurd i }

short_cons : {t : Test} {ts : List Test} → (t.fails ≡ true → (n : ℕ) → t.shortfall ≡ pos (suc n) → ⊥) → Short ts → Short (t ∷ ts)
short_cons {t} {ts} h r = record { each_short = go }
  where
    go : (u : Test) → In u (t ∷ ts) → u.fails ≡ true → (n : ℕ) → u.shortfall ≡ pos (suc n) → ⊥
    go u (inl e) = rw e h
    go u (inr i) = r.each_short u i

short_append : {xs ys : List Test} → Short xs → Short ys → Short (xs ++ ys)
short_append {xs} {ys} f g = record { each_short = λ t i. go t (in_append_cases t xs ys i) }
  where
    go : (t : Test) → In t xs ⊎ In t ys → t.fails ≡ true → (n : ℕ) → t.shortfall ≡ pos (suc n) → ⊥
    go t (inl i) = f.each_short t i
    go t (inr i) = g.each_short t i

short_only : {ts : List Test} (t : Bool) → Short ts → Short (only_if t ts)
short_only true r = r
short_only false r = short_none

short_each : (n : ℕ) {h : ℕ → List Test} → ((i : ℕ) → Short (h i)) → Short (each n h)
unfolding each
short_each zero r = short_none
short_each (suc n) r = short_append (short_each n r) (r n)

short_entries : (s g : ℕ) {h : ℕ → ℕ → ℕ → List Test} → ((p z q : ℕ) → Short (h p z q)) → Short (each_entry s g h)
unfolding each_entry
short_entries s g r = short_each s (λ p. short_each g (λ z. short_each s (r p z)))

short_rows : (s g : ℕ) {h : ℕ → ℕ → List Test} → ((p z : ℕ) → Short (h p z)) → Short (each_row s g h)
unfolding each_row
short_rows s g r = short_each s (λ p. short_each g (r p))

-- A test without an inequality has the shortfall 0.
zero_not_above : (n : ℕ) → pos 0 ≡ pos (suc n) → ⊥
zero_not_above n e = let z : 0 ≡ suc n = cc in omega arith

short_plain : {t : Bool} {r : Reason} {i : ℕ} {ts : List Test} → Short ts → Short (plain t r i ∷ ts)
short_plain r = short_cons (λ e. zero_not_above) r

-- A difference is above zero only where the first number is greater.
difference_not_above : (a b : ℕ) → a ≤ b → (n : ℕ) → sub_ℕ a b ≡ pos (suc n) → ⊥
difference_not_above a b h n = go (ltb a b)
  where
    go : (t : Bool) → cond t (negsuc (b - suc a)) (pos (a - b)) ≡ pos (suc n) → ⊥
    go true q = pos-ne-negsuc _ _ (sym q)
    go false q = let z : a - b ≡ suc n = cc in omega arith

short_upper : (lowers t : Bool) (u y i : ℕ) → Short (upper_test lowers t u y i ∷ [])
unfolding upper_test
short_upper lowers live u y i = short_cons (λ e. difference_not_above (u * sum_unit) y (go (ltb (u * sum_unit) y) refl e)) short_none
  where
    go : (t : Bool) → ltb (u * sum_unit) y ≡ t → (t || (lowers && (live && leb (u * sum_unit) y))) ≡ true → u * sum_unit ≤ y
    go true q e = omega (arith, ltb-true (u * sum_unit) y q)
    go false q e = leb-true (u * sum_unit) y ((and-eq-true_iff live _).0 ((and-eq-true_iff lowers _).0 e).1).1

short_lower : (l y i : ℕ) → Short (lower_test l y i ∷ [])
unfolding lower_test
short_lower l y i = short_cons (λ e. difference_not_above y (l * sum_unit) (omega (arith, ltb-true y (l * sum_unit) e))) short_none

short_mean : (r y i : ℕ) → Short (mean_test r y i ∷ [])
unfolding mean_test
short_mean r y i = short_cons (λ e. difference_not_above (r * sum_unit) y (omega (arith, ltb-true (r * sum_unit) y e))) short_none

short_record : (d : List ℕ) (i : ℕ) (k : Block) (p z q : ℕ) → Short (record_tests d i k p z q)
unfolding record_tests
short_record d i k p z q = short_plain (short_plain short_none)

short_dead : (t : Bool) (v i : ℕ) → Short (dead_test t v i ∷ [])
unfolding dead_test
short_dead t v i = short_plain short_none

short_below : (l u i : ℕ) → Short (below_test l u i ∷ [])
unfolding below_test
short_below l u i = short_plain short_none

short_shaped : (b : List ℕ) (s g : ℕ) (t : Option Shape) (d : List ℕ) → Short (shaped_tests b s g t d)
unfolding shaped_tests layout_tests number_tests upper_records lower_records mean_records dead_tests upper_tests below_tests lower_tests mean_tests
short_shaped b s g None d = short_plain short_none
short_shaped b s g (Some h) d =
    short_append
    (short_append (short_entries s g (λ p z q. short_record d _ Uppers p z q))
    (short_append (short_only (has_lowers h) (short_entries s g (λ p z q. short_record d _ Lowers p z q)))
    (short_only (has_means h) (short_rows s g (λ p z. short_record d _ Means p z 0)))))
    (short_append (short_entries s g (λ p z q. short_dead _ _ _))
    (short_append (short_only (has_lowers h) (short_entries s g (λ p z q. short_dead _ _ _)))
    (short_append (short_entries s g (λ p z q. short_upper (has_lowers h) _ _ _ _))
    (short_append (short_only (has_lowers h) (short_entries s g (λ p z q. short_below _ _ _)))
    (short_append (short_only (has_lowers h) (short_entries s g (λ p z q. short_lower _ _ _)))
    (short_only (has_means h) (short_rows s g (λ p z. short_mean _ _ _))))))))

short_model : (b : List ℕ) → Short (model_tests b)
unfolding model_tests model.record_tests row_tests rows_tests
short_model b =
    short_plain
    (short_append (short_each (records_of b) (λ i. short_plain (short_plain (short_plain (short_plain short_none)))))
    (short_each (rows_in (states_of b) (symbols_of b)) (λ k. short_plain short_none)))

shortfall_same : {a c : Refusal} → ◌≡◌ {A = Outcome} (Err a) (Err c) → a.shortfall ≡ c.shortfall
shortfall_same {a} {c} e = let is : a ≡ c = cc in ap (λ (why : Refusal). why.shortfall) is

-- The shortfall of a refusal is never above zero.
pub shortfall_not_positive : (b d : List ℕ) (r : Reason) (i : ℕ) (k : ℤ) → verdict b d ≡ Refused r i k → (n : ℕ) → k ≡ pos (suc n) → ⊥
unfolding delivery_tests
shortfall_not_positive b d r i k e n q =
    let (t, (found, same)) = delivery_refused b d r i k e in
    let short = short_append (short_model b) (short_shaped b (states_of b) (symbols_of b) (shape_of (states_of b) (symbols_of b) d) d) in
    short.each_short t (rw found.split (in_append_right t found.before (t ∷ found.after) (inl refl))) found.fails n (shortfall_same same ∙ q)
