-- Short names for numbered things.
use Rattle.std.specs.Prelude.{ℕ, ◌+◌, ◌-◌, ◌*◌, Bool, ◌&&◌, eqb, ℤ, pos, negsuc, ◌-ℤ◌}
use Rattle.shapes.specs.declared.NodeNo.{NodeNo}
use Rattle.shapes.specs.declared.RecordNo.{RecordNo}
use Rattle.shapes.specs.declared.Phase.{Phase}
use Rattle.shapes.specs.declared.Key.{Key}
use Rattle.shapes.specs.declared.Rank.{Rank}
use Rattle.shapes.specs.declared.Update.{Update}

abbrev pub node : ℕ → NodeNo
node n = record { 0 = n }

abbrev pub record_no : ℕ → RecordNo
record_no n = record { 0 = n }

abbrev pub phase : ℕ → Phase
phase n = record { 0 = n }

-- 01: node 0 is the Root, record 0 the dummy
abbrev pub root : NodeNo
root = node 0

abbrev pub dummy : RecordNo
dummy = record_no 0

abbrev pub flag : ℕ
flag = 0

abbrev pub mark : ℕ
mark = 1

abbrev pub update : ℕ → RecordNo → Update
update m r = record { mark = m; info = r }

-- (FLAG, dummy), with which every node starts
abbrev pub fresh_word : Update
fresh_word = update flag dummy

-- ---- keys

-- the order of keys as an order of numbers: k + 2^31
abbrev pub key_of : ℤ → Key
key_of (pos n) = record { 0 = n + 2147483648 }
key_of (negsuc n) = record { 0 = 2147483647 - n }

abbrev pub number_of : Key → ℤ
number_of k = pos k.0 -ℤ pos 2147483648

abbrev pub finite : Key → Rank
finite k = record { class = 0; word = k.0 }

-- ∞1 above every finite key, ∞2 above that
abbrev pub infinite : ℕ → Rank
infinite class = record { class = class; word = 0 }

unfoldable pub value : Rank → ℕ
value k = k.class * 4294967296 + k.word

-- ---- the same number, the same word

unfoldable pub same_node : NodeNo → NodeNo → Bool
same_node x y = eqb x.0 y.0

unfoldable pub same_record : RecordNo → RecordNo → Bool
same_record r q = eqb r.0 q.0

-- a CAS compares the whole word: FLAG or MARK as well as the record
unfoldable pub same_update : Update → Update → Bool
same_update u v = eqb u.mark v.mark && same_record u.info v.info
