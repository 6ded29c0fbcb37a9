-- Calls on a register in the order of time, each with the reply that is due, by the numbers of document 01 and the requests: the reasons 40 to 48 and their order, the
-- marks, merges, refusals that change nothing, and clearing. The files are those of the edges of crates certificate and counter.
use Rattle.std.specs.Prelude.{ℕ, List, [], ◌∷◌, ◌++◌, map, ◌≡◌, pos, negsuc}
use Rattle.model.specs.W.{w_file}
use Rattle.delivery.specs.Made.{delivery_record}
use Rattle.counter.specs.Made.{counter_record}
use Rattle.counter.specs.Edges.{queue_file}
use Rattle.certificate.specs.Edges.{one_rule, w_delivery, all_to_zero, four_rows}
use Rattle.register.specs.Filing as Filing
use Rattle.calls.specs.Calls.{Call, clear, file_model, file_counter, file_delivery, merge, upper, lower, mean_steps, margin, live, within, Reply, cleared, accepted, known, new, value, refused, refusal}
use Rattle.history.specs.Plain.{Event, pair_of, plain_reply}
use Rattle.history.specs.Run.{replies}

abbrev pub due : Call → Reply → Event
due c r = record { call = c; reply = r }

abbrev pub call_of : Event → Call
call_of e = e.call

abbrev pub reply_due : Event → Reply
reply_due e = e.reply

-- Each reply is the one due, after the exchanges before it.
abbrev pub AllReplied : List Event → List Event → Type 0
AllReplied past [] = Unit {0}
AllReplied past (e ∷ es) = (plain_reply (pair_of past) e.call ≡ e.reply) × AllReplied (e ∷ past) es

-- An empty register replies to the calls as is due.
abbrev pub Replied : List Event → Type 0
Replied es = replies Filing.cleared (map call_of es) ≡ map reply_due es

-- P holds of every table.
abbrev pub AllTables : (List Event → Type 0) → List (List Event) → Type 0
AllTables P [] = Unit {0}
AllTables P (t ∷ ts) = P t × AllTables P ts

-- Deliveries for W: the uppers alone, with the first and the last one open; with lowers, all open but that of the dead entry; with mean steps, both open; with all
-- blocks, the last lower and the last mean steps open.
abbrev pub uppers_file_with : ℕ → ℕ → List ℕ
uppers_file_with a u =
    delivery_record 85 0 0 0 a ++ (delivery_record 85 0 0 1 524288
    ++ (delivery_record 85 1 0 0 0 ++ delivery_record 85 1 0 1 u))

abbrev pub uppers_file : List ℕ
uppers_file = uppers_file_with 655360 1179648

abbrev pub lowers_block : ℕ → ℕ → ℕ → List ℕ
lowers_block a k l = delivery_record 76 0 0 0 a ++ (delivery_record 76 0 0 1 k ++ (delivery_record 76 1 0 0 0 ++ delivery_record 76 1 0 1 l))

abbrev pub lowers_file_with : ℕ → ℕ → ℕ → List ℕ
lowers_file_with a k l = uppers_file ++ lowers_block a k l

abbrev pub lowers_file : List ℕ
lowers_file = lowers_file_with 524288 393216 1048576

abbrev pub means_block : ℕ → ℕ → List ℕ
means_block a r = delivery_record 82 0 0 0 a ++ delivery_record 82 1 0 0 r

abbrev pub means_file_with : ℕ → ℕ → List ℕ
means_file_with a r = uppers_file ++ means_block a r

abbrev pub means_file : List ℕ
means_file = means_file_with 512 256

abbrev pub whole_file_with : ℕ → ℕ → List ℕ
whole_file_with l r = lowers_file_with 524288 393216 l ++ means_block 512 r

-- Nothing is held: 40, whatever is filed or asked.
abbrev pub empty_exchanges : List Event
empty_exchanges =
    due clear cleared
    ∷ due (file_delivery []) (refusal 40)
    ∷ due (upper 0 0 0) (refusal 40)
    ∷ due (lower 9 9 9) (refusal 40)
    ∷ due (mean_steps 9 9) (refusal 40)
    ∷ due margin (refusal 40)
    ∷ due (live 9 9 9) (refusal 40)
    ∷ due (file_model []) (refusal 10)
    ∷ due (live 0 0 0) (refusal 40)
    ∷ due (within 0 0 0 0) (refusal 40)
    ∷ due (within 4 9 9 9) (refusal 40)
    ∷ []

-- A model alone: 41 before the file is read, 42 before 44; live marks get 44 only.
abbrev pub model_exchanges : List Event
model_exchanges =
    due (file_model w_file) accepted
    ∷ due (file_model []) (refusal 41)
    ∷ due (file_model (one_rule 65536)) (refusal 41)
    ∷ due (file_delivery []) (refusal 20)
    ∷ due (upper 9 9 9) (refusal 42)
    ∷ due (lower 9 9 9) (refusal 42)
    ∷ due (mean_steps 9 9) (refusal 42)
    ∷ due margin (refusal 42)
    ∷ due (live 2 0 0) (refusal 44)
    ∷ due (live 0 1 0) (refusal 44)
    ∷ due (live 0 0 2) (refusal 44)
    ∷ due (live 1 0 0) (value 0)
    ∷ due (live 1 0 1) (value 1)
    ∷ []

-- Uppers alone: 44 before 43, 43 for lowers, margin and mean steps. A delivery is new where any upper differs, the first and the last too.
abbrev pub upper_exchanges : List Event
upper_exchanges =
    due (file_model w_file) accepted
    ∷ due (file_delivery uppers_file) new
    ∷ due (file_delivery uppers_file) known
    ∷ due (upper 0 0 1) (value 524288)
    ∷ due (upper 1 0 1) (value 1179648)
    ∷ due (upper 0 1 0) (refusal 44)
    ∷ due (lower 0 0 2) (refusal 44)
    ∷ due (lower 0 0 1) (refusal 43)
    ∷ due (mean_steps 0 1) (refusal 44)
    ∷ due (mean_steps 2 0) (refusal 44)
    ∷ due (mean_steps 0 0) (refusal 43)
    ∷ due margin (refusal 43)
    ∷ due (live 1 0 1) (value 1)
    ∷ due (file_delivery (uppers_file_with 655360 1179647)) new
    ∷ due (upper 1 0 1) (value 1179647)
    ∷ due (file_delivery (uppers_file_with 655361 1179647)) new
    ∷ due (upper 0 0 0) (value 655361)
    ∷ due (file_delivery uppers_file) new
    ∷ []

-- The same uppers with lowers are new, and so are the same lowers with another upper; mean steps get 43.
abbrev pub lower_exchanges : List Event
lower_exchanges =
    due (file_model w_file) accepted
    ∷ due (file_delivery uppers_file) new
    ∷ due (file_delivery lowers_file) new
    ∷ due (lower 0 0 1) (value 393216)
    ∷ due margin (value 45875)
    ∷ due (mean_steps 0 0) (refusal 43)
    ∷ due (file_delivery (uppers_file_with 655361 1179648 ++ lowers_block 524288 393216 1048576)) new
    ∷ due (upper 0 0 0) (value 655361)
    ∷ []

-- The same uppers with mean steps are new, and so are the same mean steps with another upper; lowers and the margin get 43.
abbrev pub mean_exchanges : List Event
mean_exchanges =
    due (file_model w_file) accepted
    ∷ due (file_delivery uppers_file) new
    ∷ due (file_delivery means_file) new
    ∷ due (mean_steps 0 0) (value 512)
    ∷ due (mean_steps 1 0) (value 256)
    ∷ due (lower 0 0 0) (refusal 43)
    ∷ due margin (refusal 43)
    ∷ due (file_delivery (uppers_file_with 655360 1179649 ++ means_block 512 256)) new
    ∷ due (upper 1 0 1) (value 1179649)
    ∷ []

-- All blocks; a refused delivery changes nothing; another upper is new; the former model's delivery is gone after a clearing.
abbrev pub all_exchanges : List Event
all_exchanges =
    due (file_model w_file) accepted
    ∷ due (file_delivery (w_delivery 524288 512)) new
    ∷ due (file_delivery (w_delivery 466033 512)) (refused 24 1 (negsuc 30064771071))
    ∷ due (file_model []) (refusal 41)
    ∷ due margin (value 45875)
    ∷ due (lower 0 0 1) (value 393216)
    ∷ due (upper 0 0 1) (value 524288)
    ∷ due (mean_steps 0 0) (value 512)
    ∷ due (file_delivery (w_delivery 466034 512)) new
    ∷ due (upper 0 0 1) (value 466034)
    ∷ due (file_delivery (w_delivery 466034 486)) new
    ∷ due (mean_steps 0 0) (value 486)
    ∷ due clear cleared
    ∷ due (upper 0 0 1) (refusal 40)
    ∷ due (file_model (one_rule 65536)) accepted
    ∷ due (upper 0 0 0) (refusal 42)
    ∷ []

-- Uppers and lowers for two states and two symbols, of which every rule ends in state 0: the lowers of the second symbol and of the second state are open.
abbrev pub four_lowers : ℕ → ℕ → List ℕ
four_lowers k l =
    delivery_record 85 0 0 0 1048577 ++ (delivery_record 85 0 0 1 0 ++ (delivery_record 85 0 1 0 1048577 ++ (delivery_record 85 0 1 1 0
    ++ (delivery_record 85 1 0 0 1048577 ++ (delivery_record 85 1 0 1 0 ++ (delivery_record 85 1 1 0 1048577 ++ (delivery_record 85 1 1 1 0
    ++ (delivery_record 76 0 0 0 1048576 ++ (delivery_record 76 0 0 1 0 ++ (delivery_record 76 0 1 0 k ++ (delivery_record 76 0 1 1 0
    ++ (delivery_record 76 1 0 0 l ++ (delivery_record 76 1 0 1 0 ++ (delivery_record 76 1 1 0 1048576 ++ delivery_record 76 1 1 1 0))))))))))))))

-- Two states and two symbols: a delivery is new where an upper, a lower or mean steps of the second symbol or of the second state alone differ; each number is that
-- of its own entry and row.
abbrev pub wide_exchanges : List Event
wide_exchanges =
    due (file_model all_to_zero) accepted
    ∷ due (file_delivery (four_rows 0 1048577 0 1048578 0 257 258)) new
    ∷ due (file_delivery (four_rows 0 1048577 0 1048578 0 257 258)) known
    ∷ due (file_delivery (four_rows 0 1048579 0 1048578 0 257 258)) new
    ∷ due (file_delivery (four_rows 0 1048579 0 1048576 0 257 258)) new
    ∷ due (upper 0 1 0) (value 1048579)
    ∷ due (upper 1 0 0) (value 1048576)
    ∷ due (mean_steps 0 1) (value 257)
    ∷ due (mean_steps 1 0) (value 258)
    ∷ due (live 0 1 0) (value 1)
    ∷ due (live 1 0 1) (value 0)
    ∷ due (upper 1 2 0) (refusal 44)
    ∷ due (file_delivery (four_rows 0 1048579 0 1048576 0 258 258)) new
    ∷ due (file_delivery (four_rows 0 1048579 0 1048576 0 258 259)) new
    ∷ due (file_delivery (four_rows 0 1048579 0 1048576 0 258 259)) known
    ∷ due (file_delivery (four_lowers 1048576 1048576)) new
    ∷ due (file_delivery (four_lowers 1048575 1048576)) new
    ∷ due (file_delivery (four_lowers 1048575 1048574)) new
    ∷ due (file_delivery (four_lowers 1048575 1048574)) known
    ∷ due (lower 0 1 0) (value 1048575)
    ∷ due (lower 1 0 0) (value 1048574)
    ∷ []

-- Marks (request A.3); all that is accepted has the same uppers. A delivery is new with a block more, of zeros alone too, or fewer; where a lower or mean steps alone
-- differ, the first and the last; and known where it is the very same file, also after a refused one, but not after a clearing.
abbrev pub mark_exchanges : List Event
mark_exchanges =
    due (file_model w_file) accepted
    ∷ due (file_delivery uppers_file) new
    ∷ due (file_delivery uppers_file) known
    ∷ due (file_delivery (lowers_file_with 0 0 0)) new
    ∷ due margin (value 45875)
    ∷ due (file_delivery uppers_file) new
    ∷ due margin (refusal 43)
    ∷ due (file_delivery lowers_file) new
    ∷ due (file_delivery lowers_file) known
    ∷ due (file_delivery (lowers_file_with 524287 393216 1048576)) new
    ∷ due (file_delivery (lowers_file_with 524287 393215 1048576)) new
    ∷ due (file_delivery (lowers_file_with 524287 393215 1048575)) new
    ∷ due (lower 1 0 1) (value 1048575)
    ∷ due (file_delivery (w_delivery 524288 512)) new
    ∷ due (file_delivery means_file) new
    ∷ due (file_delivery means_file) known
    ∷ due (file_delivery (means_file_with 511 256)) new
    ∷ due (file_delivery (means_file_with 511 257)) new
    ∷ due (mean_steps 1 0) (value 257)
    ∷ due (file_delivery (w_delivery 524288 512)) new
    ∷ due (file_delivery (w_delivery 524288 511)) new
    ∷ due (mean_steps 0 0) (value 511)
    ∷ due (file_delivery (whole_file_with 1048576 256)) new
    ∷ due (file_delivery (whole_file_with 1048575 256)) new
    ∷ due (file_delivery (whole_file_with 1048575 257)) new
    ∷ due (file_delivery (whole_file_with 1048575 257)) known
    ∷ due (file_delivery (w_delivery 524288 511)) new
    ∷ due (file_delivery (w_delivery 466033 511)) (refused 24 1 (negsuc 30064771071))
    ∷ due (file_delivery (w_delivery 524288 511)) known
    ∷ due clear cleared
    ∷ due (file_model w_file) accepted
    ∷ due (file_delivery (w_delivery 524288 511)) new
    ∷ []

-- Deliveries for a model of one state and one symbol, with the same two numbers: UL and UR, which are equally long.
abbrev pub one_lower : List ℕ
one_lower = delivery_record 85 0 0 0 1048577 ++ delivery_record 76 0 0 0 256

abbrev pub one_mean : List ℕ
one_mean = delivery_record 85 0 0 0 1048577 ++ delivery_record 82 0 0 0 256

-- One state (request A.3): UL and UR with the same numbers are new beside each other, and known beside themselves.
abbrev pub one_state_exchanges : List Event
one_state_exchanges =
    due (file_model (one_rule 65536)) accepted
    ∷ due (file_delivery one_lower) new
    ∷ due (file_delivery one_mean) new
    ∷ due (lower 0 0 0) (refusal 43)
    ∷ due (mean_steps 0 0) (value 256)
    ∷ due (file_delivery one_mean) known
    ∷ due (file_delivery one_lower) new
    ∷ due (lower 0 0 0) (value 256)
    ∷ due (mean_steps 0 0) (refusal 43)
    ∷ due (file_delivery one_lower) known
    ∷ []

-- Chances of short runs (request A.1), of all entries of W, 0 to 3 steps: they need a model only, and a delivery does not change them. 44 before 45, for each of p, Z and
-- q; 45 from 4 steps on, up to the largest number that can be asked; the figure of the request is that of the entry (0, 0, 0) within 3 steps.
abbrev pub short_exchanges : List Event
short_exchanges =
    due (file_model w_file) accepted
    ∷ due (within 0 0 0 0) (value 0)
    ∷ due (within 0 0 0 1) (value 0)
    ∷ due (within 0 1 0 0) (value 0)
    ∷ due (within 0 1 0 1) (value 0)
    ∷ due (within 1 0 0 0) (value 32768)
    ∷ due (within 1 0 0 1) (value 16384)
    ∷ due (within 1 1 0 0) (value 0)
    ∷ due (within 1 1 0 1) (value 65536)
    ∷ due (within 2 0 0 0) (value 2147483648)
    ∷ due (within 2 0 0 1) (value 1073741824)
    ∷ due (within 2 1 0 0) (value 0)
    ∷ due (within 2 1 0 1) (value 4294967296)
    ∷ due (within 3 0 0 0) (value 158329674399744)
    ∷ due (within 3 0 0 1) (value 96757023244288)
    ∷ due (within 3 1 0 0) (value 0)
    ∷ due (within 3 1 0 1) (value 281474976710656)
    ∷ due (within 3 2 0 0) (refusal 44)
    ∷ due (within 3 0 1 0) (refusal 44)
    ∷ due (within 3 0 0 2) (refusal 44)
    ∷ due (within 4 2 0 0) (refusal 44)
    ∷ due (within 4 0 1 0) (refusal 44)
    ∷ due (within 4 0 0 2) (refusal 44)
    ∷ due (within 18446744073709551615 0 0 18446744073709551615) (refusal 44)
    ∷ due (within 4 0 0 0) (refusal 45)
    ∷ due (within 4 1 0 1) (refusal 45)
    ∷ due (within 65536 0 0 0) (refusal 45)
    ∷ due (within 18446744073709551615 0 0 0) (refusal 45)
    ∷ due (file_delivery (w_delivery 524288 512)) new
    ∷ due (within 3 0 0 0) (value 158329674399744)
    ∷ due (within 4 0 0 0) (refusal 45)
    ∷ due clear cleared
    ∷ due (within 3 0 0 0) (refusal 40)
    ∷ due (within 4 0 0 0) (refusal 40)
    ∷ []

-- A delivery for the queue of request A.2's table, with all blocks.
abbrev pub queue_delivery : List ℕ
queue_delivery =
    delivery_record 85 0 0 0 737280 ++ (delivery_record 85 0 0 1 368640
    ++ (delivery_record 85 1 0 0 229376 ++ (delivery_record 85 1 0 1 884736
    ++ (delivery_record 76 0 0 0 688128 ++ (delivery_record 76 0 0 1 311296
    ++ (delivery_record 76 1 0 0 172032 ++ (delivery_record 76 1 0 1 811008
    ++ (delivery_record 82 0 0 0 2048 ++ delivery_record 82 1 0 0 2560))))))))

-- Counter files (request A.2): 46, 47 and 48 with their places, after which nothing is held; 41 before the file is read, whichever call filed the model; the
-- model that the queue makes has one symbol, and a delivery for it is accepted; a clearing drops it.
abbrev pub counter_exchanges : List Event
counter_exchanges =
    due (file_counter []) (refusal 46)
    ∷ due (file_counter (counter_record 0 0 0 0 65536 ++ counter_record 0 0 0 0 65536)) (refused 47 1 (pos 0))
    ∷ due (file_counter (counter_record 0 1 0 0 65536)) (refused 48 1 (pos 0))
    ∷ due (live 0 0 0) (refusal 40)
    ∷ due (file_counter queue_file) accepted
    ∷ due (file_counter []) (refusal 41)
    ∷ due (file_counter queue_file) (refusal 41)
    ∷ due (file_model w_file) (refusal 41)
    ∷ due (live 1 0 0) (value 1)
    ∷ due (live 0 1 0) (refusal 44)
    ∷ due (within 3 0 0 0) (value 162727720910848)
    ∷ due (within 3 1 0 0) (value 17592186044416)
    ∷ due (upper 0 0 0) (refusal 42)
    ∷ due (file_delivery queue_delivery) new
    ∷ due (upper 0 0 1) (value 368640)
    ∷ due (lower 1 0 0) (value 172032)
    ∷ due (mean_steps 1 0) (value 2560)
    ∷ due margin (value 4968)
    ∷ due clear cleared
    ∷ due (upper 0 0 1) (refusal 40)
    ∷ due (file_model w_file) accepted
    ∷ due (file_counter queue_file) (refusal 41)
    ∷ due (live 1 0 0) (value 0)
    ∷ []

-- A delivery for W with all blocks, its dead entries 0 and every other number open.
abbrev pub blocks_file : ℕ → ℕ → ℕ → ℕ → ℕ → ℕ → ℕ → ℕ → List ℕ
blocks_file a c u k j l r t =
    delivery_record 85 0 0 0 a ++ (delivery_record 85 0 0 1 c ++ (delivery_record 85 1 0 0 0 ++ (delivery_record 85 1 0 1 u
    ++ (lowers_block k j l ++ means_block r t))))

-- Two suppliers' deliveries for W, of which each is sharper in some numbers of every block, and the one merged of them, byte by byte.
abbrev pub first_supply : List ℕ
first_supply = blocks_file 655360 524288 1179648 524288 393216 1048576 512 256

abbrev pub second_supply : List ℕ
second_supply = blocks_file 660000 480000 1200000 530000 380000 1000000 500 300

abbrev pub merged_supply : List ℕ
merged_supply = blocks_file 655360 480000 1179648 530000 393216 1048576 500 256

-- Merging (request A.5): 40 before 42 before the file; a refused second delivery changes nothing; with itself it is known; of each pair the sharper is shown, with its
-- own margin, which lies between those of the two; once more it is known, and so is the merged file, from either side; lowers are gone where one of the two has
-- none, and mean steps stay.
abbrev pub merge_exchanges : List Event
merge_exchanges =
    due (merge first_supply) (refusal 40)
    ∷ due (file_model w_file) accepted
    ∷ due (merge first_supply) (refusal 42)
    ∷ due (merge []) (refusal 42)
    ∷ due (upper 0 0 0) (refusal 42)
    ∷ due (file_delivery first_supply) new
    ∷ due (merge first_supply) known
    ∷ due margin (value 45875)
    ∷ due (merge []) (refusal 20)
    ∷ due (merge (w_delivery 466033 512)) (refused 24 1 (negsuc 30064771071))
    ∷ due (upper 0 0 1) (value 524288)
    ∷ due (merge second_supply) new
    ∷ due (upper 0 0 0) (value 655360)
    ∷ due (upper 0 0 1) (value 480000)
    ∷ due (upper 1 0 0) (value 0)
    ∷ due (upper 1 0 1) (value 1179648)
    ∷ due (lower 0 0 0) (value 530000)
    ∷ due (lower 0 0 1) (value 393216)
    ∷ due (lower 1 0 1) (value 1048576)
    ∷ due (mean_steps 0 0) (value 500)
    ∷ due (mean_steps 1 0) (value 256)
    ∷ due margin (value 17161)
    ∷ due (merge second_supply) known
    ∷ due (merge first_supply) known
    ∷ due (file_delivery merged_supply) known
    ∷ due (file_delivery second_supply) new
    ∷ due margin (value 10913)
    ∷ due (merge first_supply) new
    ∷ due (file_delivery merged_supply) known
    ∷ due (merge uppers_file) new
    ∷ due (upper 0 0 1) (value 480000)
    ∷ due (lower 0 0 1) (refusal 43)
    ∷ due margin (refusal 43)
    ∷ due (mean_steps 0 0) (value 500)
    ∷ due (merge first_supply) known
    ∷ due (lower 0 0 1) (refusal 43)
    ∷ due (file_delivery lowers_file) new
    ∷ due (merge means_file) new
    ∷ due (mean_steps 0 0) (value 512)
    ∷ due margin (refusal 43)
    ∷ due clear cleared
    ∷ due (merge first_supply) (refusal 40)
    ∷ []

-- All tables.
abbrev pub exchanges : List (List Event)
exchanges =
    empty_exchanges
    ∷ model_exchanges
    ∷ upper_exchanges
    ∷ lower_exchanges
    ∷ mean_exchanges
    ∷ all_exchanges
    ∷ wide_exchanges
    ∷ mark_exchanges
    ∷ one_state_exchanges
    ∷ short_exchanges
    ∷ counter_exchanges
    ∷ merge_exchanges
    ∷ []
