-- A file made of rules says them, and an accepted file is the one made of its rules: a record is ten bytes, its weight is told by the last
-- four, and what a rule does not use is 0 in both.
use Prim.Native.Nat.{ℕ, zero, suc, ◌+◌, ◌*◌, ◌≤◌, ◌<◌, ◌^◌}
use native.Mathlib.Nat.{add-zero}
use native.Mathlib.Numerals.{add-one}
use native.Mathlib.Omega.{arith}
use mathlib.Core.List.{List, [], ◌∷◌, ◌++◌, append-nil, append_assoc}
use mathlib.Core.Logic.{inl, inr}
use mathlib.Core.Path.{◌≡◌, refl, sym, ap, ap₂, ◌∙◌}
use lib.ListN.{length, get_or, take, drop, length-append, get_or-append}
use lib.Seq.{get_or-append-add, take-length, take-add}
use Rattle.words.specs.Words.{word_at, Bytes}
use Rattle.words.proofs.Words.{bytes_none, bytes_cons, bytes_append, four_are_bytes, part_next, word_past, word_made, made_word}
use Rattle.walks.specs.Sums.{In}
use Rattle.ppda.specs.Rules.{Push, nothing, one, two, pushed, Rule, rule, Below}
use Rattle.model.specs.Format.{record_bytes, weight_byte}
use Rattle.model.specs.Records.{records_of, field, state, symbol, target, pushes, top, under, weight}
use Rattle.model.specs.Rules.{push_of, rule_of, rules_of}
use Rattle.walks.specs.Lists.{list_to}
use Rattle.model.specs.Accepted.{RecordRight, ModelFile}
use Rattle.model.specs.Made.{model_record, push_record, rule_record, made_model, RuleFits}
use Rattle.walks.proofs.Lists.{list_to_cong, list_to_first}

-- ---- reading what was made

pub record_size : (r : Rule) → length (rule_record r) ≡ 10
record_size r = go r.push
  where
    go : (a : Push) → length (push_record r.state r.symbol r.target a r.weight) ≡ 10
    go nothing = refl
    go (one y) = refl
    go (two y x) = refl

-- With ten bytes in front there is one record more, and the others follow it.
module _ (x b : List ℕ) (ten : length x ≡ 10) where
  records_behind : records_of (x ++ b) ≡ suc (records_of b)
  unfolding records_of
  records_behind = rw (length-append x b, ten) (omega arith)

  field_behind : (i k : ℕ) → field (x ++ b) (suc i) k ≡ field b i k
  unfolding field
  field_behind i k = ap (λ j. get_or (x ++ b) j 0) (omega arith) ∙ get_or-append-add x b (record_bytes * i + k) 0

  weight_behind : (i : ℕ) → weight (x ++ b) (suc i) ≡ weight b i
  unfolding weight
  weight_behind i = ap (word_at (x ++ b)) (omega arith) ∙ word_past x b (record_bytes * i + weight_byte)

  rule_behind : (i : ℕ) → rule_of (x ++ b) (suc i) ≡ rule_of b i
  unfolding rule_of
  rule_behind i =
      rw (field_behind i 0, field_behind i 1, field_behind i 2, field_behind i 3, field_behind i 4, field_behind i 5, weight_behind i)

-- The first record says its rule.
rule_in_front : (r : Rule) (b : List ℕ) → r.weight < 2 ^ 32 → rule_of (rule_record r ++ b) 0 ≡ r
unfolding rule_of field weight
rule_in_front r b h = go r.push
  where
    go : (a : Push) → rule_of (push_record r.state r.symbol r.target a r.weight ++ b) 0
        ≡ rule r.state r.symbol r.target a r.weight
    go nothing = ap (rule _ _ _ _) (word_made (_ ∷ _ ∷ _ ∷ 0 ∷ 0 ∷ 0 ∷ []) b r.weight h)
    go (one y) = ap (rule _ _ _ _) (word_made (_ ∷ _ ∷ _ ∷ 1 ∷ y ∷ 0 ∷ []) b r.weight h)
    go (two y x) = ap (rule _ _ _ _) (word_made (_ ∷ _ ∷ _ ∷ 2 ∷ y ∷ x ∷ []) b r.weight h)

-- Reading what was made: as many records as rules, and the same rules.
pub rules_of_made : (m : List Rule) → ((r : Rule) → In r m → RuleFits r)
    → (records_of (made_model m) ≡ length m) × (rules_of (made_model m) ≡ m)
unfolding made_model records_of rules_of list_to
rules_of_made [] fit = (refl, refl)
rules_of_made (r ∷ m) fit =
    let (count, rest) = rules_of_made m (λ x i. fit x (inr i)) in
    let more : records_of (made_model (r ∷ m)) ≡ suc (records_of (made_model m)) = records_behind (rule_record r) (made_model m) (record_size r) in (
      more ∙ ap suc count,
      ap (list_to (rule_of (made_model (r ∷ m)))) more ∙ list_to_first (rule_of (made_model (r ∷ m))) (records_of (made_model m))
          ∙ ap₂ ◌∷◌ (rule_in_front r (made_model m) (fit r (inl refl)).weight)
          (list_to_cong _ _ (records_of (made_model m)) (rule_behind (rule_record r) (made_model m) (record_size r)) ∙ rest),
    )

pub made_length : (m : List Rule) → length (made_model m) ≡ record_bytes * length m
unfolding made_model
made_length [] = refl
made_length (r ∷ m) = length-append (rule_record r) (made_model m) ∙ omega (arith, record_size r, made_length m)

-- The bytes and the weight of record i, of a file made of h 0, h 1, …, h (n − 1).
module _ (h : ℕ → Rule) (n : ℕ) where
  made_first : made_model (list_to h (suc n)) ≡ rule_record (h 0) ++ made_model (list_to (λ i. h (suc i)) n)
  unfolding made_model
  made_first = ap made_model (list_to_first h n)

pub made_field : (h : ℕ → Rule) (n i k : ℕ) → i < n → k < record_bytes → field (made_model (list_to h n)) i k ≡ get_or (rule_record (h i)) k 0
unfolding field
made_field h zero i k l hk = absurd (omega arith)
made_field h (suc n) zero k l hk = ap (λ b. field b 0 k) (made_first h n) ∙ in_front_lem
  where
    in_front_lem : field (rule_record (h 0) ++ made_model (list_to (λ i. h (suc i)) n)) 0 k ≡ get_or (rule_record (h 0)) k 0
    in_front_lem =
        ap (λ j. get_or (rule_record (h 0) ++ made_model (list_to (λ i. h (suc i)) n)) j 0) (omega arith)
        ∙ get_or-append (rule_record (h 0)) (made_model (list_to (λ i. h (suc i)) n)) 0 k (omega (arith, record_size (h 0)))
made_field h (suc n) (suc i) k l hk =
    ap (λ b. field b (suc i) k) (made_first h n)
    ∙ field_behind (rule_record (h 0)) (made_model (list_to (λ i. h (suc i)) n)) (record_size (h 0)) i k
    ∙ made_field (λ i. h (suc i)) n i k (omega arith) hk

pub made_weight : (h : ℕ → Rule) (n i : ℕ) → i < n → ((j : ℕ) → j < n → (h j).weight < 2 ^ 32) → weight (made_model (list_to h n)) i ≡ (h i).weight
unfolding rule_of
made_weight h zero i l fit = absurd (omega arith)
made_weight h (suc n) zero l fit = ap (λ b. weight b 0) (made_first h n) ∙ in_front_lem
  where
    in_front_lem : weight (rule_record (h 0) ++ made_model (list_to (λ i. h (suc i)) n)) 0 ≡ (h 0).weight
    in_front_lem = ap (λ (r : Rule). r.weight) (rule_in_front (h 0) (made_model (list_to (λ i. h (suc i)) n)) (fit 0 (omega arith)))
made_weight h (suc n) (suc i) l fit =
    ap (λ b. weight b (suc i)) (made_first h n)
    ∙ weight_behind (rule_record (h 0)) (made_model (list_to (λ i. h (suc i)) n)) (record_size (h 0)) i
    ∙ made_weight (λ i. h (suc i)) n i (omega arith) (λ j m. fit (suc j) (omega arith))

-- The file is made of bytes.
record_bytes_lem : (r : Rule) → RuleFits r → Bytes (rule_record r)
record_bytes_lem r f = go r.push f.push
  where
    three : (l y x : ℕ) → l < 256 → y < 256 → x < 256 → Bytes (model_record r.state r.symbol r.target l y x r.weight)
    three l y x hl hy hx =
        bytes_cons f.state (bytes_cons f.symbol (bytes_cons f.target
        (bytes_cons hl (bytes_cons hy (bytes_cons hx (four_are_bytes r.weight))))))

    go : (a : Push) → Below 256 (pushed a) → Bytes (push_record r.state r.symbol r.target a r.weight)
    go nothing h = three 0 0 0 (omega arith) (omega arith) (omega arith)
    go (one y) h = three 1 y 0 (omega arith) h.0 (omega arith)
    go (two y x) h = three 2 y x (omega arith) h.0 h.1.0

pub made_bytes_lem : (m : List Rule) → ((r : Rule) → In r m → RuleFits r) → Bytes (made_model m)
unfolding made_model
made_bytes_lem [] fit = bytes_none
made_bytes_lem (r ∷ m) fit =
    bytes_append (rule_record r) (record_bytes_lem r (fit r (inl refl))) (made_bytes_lem m (λ x i. fit x (inr i)))

-- ---- making what was read

-- The rule that L, Y and X say has them in its record, where what is not used is 0.
push_back : (p z q l y x k : ℕ) → l ≤ 2 → (l ≡ 0 → y ≡ 0) → ((l ≡ 2 → ⊥) → x ≡ 0)
    → push_record p z q (push_of l y x) k ≡ model_record p z q l y x k
push_back p z q zero y x k h top_unused under_unused = rw (top_unused refl, under_unused (λ e. omega arith))
push_back p z q (suc zero) y x k h top_unused under_unused = rw (under_unused (λ e. omega arith))
push_back p z q (suc (suc zero)) y x k h top_unused under_unused = refl
push_back p z q (suc (suc (suc l))) y x k h top_unused under_unused = absurd (omega arith)

pub made_append : (l m : List Rule) → made_model (l ++ m) ≡ made_model l ++ made_model m
unfolding made_model
made_append [] m = refl
made_append (r ∷ l) m = ap (λ k. rule_record r ++ k) (made_append l m) ∙ sym (append_assoc (rule_record r) (made_model l) (made_model m))

-- One rule more.
pub made_more : (h : ℕ → Rule) (n : ℕ) → made_model (list_to h (n + 1)) ≡ made_model (list_to h n) ++ rule_record (h n)
unfolding list_to made_model
made_more h n =
    ap (λ k. made_model (list_to h k)) (add-one n)
    ∙ made_append (list_to h n) (h n ∷ [])
    ∙ ap (λ k. made_model (list_to h n) ++ k) (append-nil (rule_record (h n)))

module _ (b : List ℕ) (bytes : Bytes b) where
  -- Record i of the file is ten bytes.
  ten_bytes : (i : ℕ) → record_bytes * i + record_bytes ≤ length b
      → model_record (state b i) (symbol b i) (target b i) (pushes b i) (top b i) (under b i) (weight b i) ≡ take record_bytes (drop (record_bytes * i) b)
  unfolding field weight
  ten_bytes i h =
      sym (
      ap (λ j. take record_bytes (drop j b)) (sym (add-zero (record_bytes * i)))
      ∙ rw (
        step 0 9 (omega arith),
        step 1 8 (omega arith),
        step 2 7 (omega arith),
        step 3 6 (omega arith),
        step 4 5 (omega arith),
        step 5 4 (omega arith),
        made_word b (record_bytes * i + weight_byte) bytes (omega arith),
      )
      )
    where
      step : (k n : ℕ) → k < record_bytes → take (suc n) (drop (record_bytes * i + k) b) ≡ get_or b (record_bytes * i + k) 0 ∷ take n (drop (record_bytes * i + suc k) b)
      step k n l = part_next b (record_bytes * i) k n (omega arith)

  record_back : (i : ℕ) → record_bytes * i + record_bytes ≤ length b → RecordRight b i → rule_record (rule_of b i) ≡ take record_bytes (drop (record_bytes * i) b)
  unfolding rule_of
  record_back i h r =
      push_back (state b i) (symbol b i) (target b i) (pushes b i) (top b i) (under b i) (weight b i)
      r.pushes_range r.top_unused r.under_unused
      ∙ ten_bytes i h

  -- The first n records.
  records_back : (n : ℕ) → record_bytes * n ≤ length b → ((i : ℕ) → i < n → RecordRight b i) → made_model (list_to (rule_of b) n) ≡ take (record_bytes * n) b
  unfolding list_to made_model
  records_back zero h right = refl
  records_back (suc n) h right =
      let e : record_bytes * n + record_bytes ≡ record_bytes * suc n = omega arith in
      made_append (list_to (rule_of b) n) (rule_of b n ∷ [])
      ∙ ap₂ ◌++◌ (records_back n (omega arith) (λ i l. right i (omega arith)))
      (append-nil (rule_record (rule_of b n)) ∙ record_back n (omega arith) (right n (omega arith)))
      ∙ sym (take-add (record_bytes * n) record_bytes b) ∙ ap (λ k. take k b) e

-- A file is the one made of its rules.
pub made_of_rules : (b : List ℕ) → ModelFile b → Bytes b → made_model (rules_of b) ≡ b
unfolding rules_of
made_of_rules b m bytes =
    let whole : length b ≡ record_bytes * records_of b = m.records.whole in
    records_back b bytes (records_of b) (omega arith) m.records.right ∙ ap (λ n. take n b) (sym whole) ∙ take-length b

-- So two files that say the same rules are the same bytes.
pub told_by_rules : (b c : List ℕ) → ModelFile b → Bytes b → ModelFile c → Bytes c → rules_of b ≡ rules_of c → b ≡ c
told_by_rules b c m bytes n bytes' e = sym (made_of_rules b m bytes) ∙ ap made_model e ∙ made_of_rules c n bytes'
