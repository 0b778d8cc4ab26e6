-- The forms of commands: the command word, and after it the words, each in its form and with its range. A command word stands
-- once; if it has several forms, `or` stands between them. A name, a slot, a head, a decimal number and a number in either
-- form are read by `name_of`, `slot_of`, `head_of`, `decimal_number` and `number_of`.
use Rattle.std.specs.Prelude.{ℕ, ◌*◌, ◌-◌, nat_le, nat_lt, ◌&&◌, if◌then◌else◌, codes, Option, Some, None, option_map, List, [], ◌∷◌, ◌++◌, length, replicate}
use Rattle.std.specs.Str.{bytes_eq}
use Rattle.mps_base.specs.Address.{max_grains}
use Rattle.mps_base.specs.declared.names.Kind.{Kind}
use Rattle.mps_base.specs.declared.names.Kind.TheVariants as kind
use Rattle.mps_base.specs.declared.names.Rank.{Rank}
use Rattle.mps_base.specs.declared.names.Rank.TheVariants as rank
use Rattle.mps_model.specs.declared.call.Call.{Call}
use Rattle.mps_model.specs.declared.call.Call.TheVariants as call
use Rattle.mps_numerals.specs.Decimal.{decimal_number}
use Rattle.mps_line_words.specs.Reading.{both, named_in, onto, each}
use Rattle.mps_line_words.specs.Number.{number_of, number_within, prefixed_hexadecimal}
use Rattle.mps_line_words.specs.Name.{name_of, slot_of}
use Rattle.mps_line_words.specs.Head.{head_of}
use Rattle.mps_grammar.specs.Calls.{none, one, two, three, four, or}

-- ---- words of few values

-- the kinds of automatic pools
abbrev pub kinds : List (List ℕ × Kind)
kinds = (codes "amc", kind.Amc) ∷ (codes "amcz", kind.Amcz) ∷ (codes "ams", kind.Ams) ∷ (codes "awl", kind.Awl) ∷ (codes "lo", kind.Lo) ∷ []

-- those that may stand on a chain
abbrev pub kinds_on_chains : List (List ℕ × Kind)
kinds_on_chains = (codes "amc", kind.Amc) ∷ (codes "amcz", kind.Amcz) ∷ []

-- the formats, with their numbers
abbrev pub formats : List (List ℕ × ℕ)
formats = (codes "front", 1) ∷ (codes "mapped", 2) ∷ (codes "leaf", 3) ∷ []

-- the ranks of allocation points
abbrev pub ranks : List (List ℕ × Rank)
ranks = (codes "exact", rank.Exact) ∷ (codes "weak", rank.Weak) ∷ []

-- this word
abbrev pub keyword : List ℕ → List ℕ → Option (List ℕ)
keyword text word = if bytes_eq word text then Some word else None

-- ---- numbers in ranges

-- the most slots of a table, words of an area and places of a table of blocks
abbrev pub max_slots : ℕ
max_slots = 65536

-- the greatest tag of a reference
abbrev pub max_tag : ℕ
max_tag = 7

-- the most generations of a chain
abbrev pub max_generations : ℕ
max_generations = 8

-- a number of grains, from 0 or from 1 on
abbrev pub grains_from : ℕ → List ℕ → Option ℕ
grains_from least = number_within least max_grains

-- the length of a root
abbrev pub length_of_root : List ℕ → Option ℕ
length_of_root = number_within 1 max_slots

-- the tag of a reference
abbrev pub tag_number : List ℕ → Option ℕ
tag_number = number_within 0 max_tag

-- the capacities of a chain, one to eight
abbrev pub capacities : List (List ℕ) → Option (List ℕ)
capacities ws = if nat_le 1 (length ws) && nat_le (length ws) max_generations then each (grains_from 0) ws else None

-- eight numbers, of which these are the first and the others are 0
abbrev pub padded : List ℕ → List ℕ
padded numbers = numbers ++ replicate (max_generations - length numbers) 0

-- a name, and after it the capacities of a chain
abbrev pub chain : List (List ℕ) → Option Call
chain ws = option_map (λ p. call.Chain p.0 (length p.1) (padded p.1)) (onto name_of capacities ws)

-- ---- the classes of a cache

-- the most classes of a cache
abbrev pub max_classes : ℕ
max_classes = 8

-- the most blocks that a class keeps
abbrev pub max_cached : ℕ
max_cached = 64

-- one word more than the largest block has
abbrev pub too_large : ℕ
too_large = 65537

-- the size of the blocks of a class; those that are too large are refused alike, and all stand as the least of them
abbrev pub class_size : List ℕ → Option ℕ
class_size word = option_map (λ n. if nat_lt n too_large then n else too_large) (decimal_number word)

-- how many blocks a class keeps at most
abbrev pub class_limit : List ℕ → Option ℕ
class_limit = number_within 0 max_cached

-- the sizes of classes, and how many blocks each keeps at most; of each class two words
abbrev pub each_class : List (List ℕ) → Option (List ℕ × List ℕ)
each_class [] = Some ([], [])
each_class (size ∷ []) = None
each_class (size ∷ limit ∷ ws) =
    option_map (λ p. (p.0.0 ∷ p.1.0, p.0.1 ∷ p.1.1)) (both (both (class_size size) (class_limit limit)) (each_class ws))

-- the same, of one to eight classes
abbrev pub classes : List (List ℕ) → Option (List ℕ × List ℕ)
classes ws = if nat_le 2 (length ws) && nat_le (length ws) (2 * max_classes) then each_class ws else None

-- a name, the name of a pool, and classes
abbrev pub cache : List (List ℕ) → Option Call
cache ws =
    option_map (λ p. call.Cache p.0 p.1.0 (length p.1.1.0) (padded p.1.1.0) (padded p.1.1.1)) (onto name_of (onto name_of classes) ws)

-- ---- commands with several forms

abbrev pub automatic_pool : List (List ℕ) → Option Call
automatic_pool = three name_of (named_in kinds) (named_in formats) call.Pool

abbrev pub pool_on_chain : List (List ℕ) → Option Call
pool_on_chain = four name_of (named_in kinds_on_chains) (named_in formats) name_of call.PoolOnChain

abbrev pub pool_mfs : List (List ℕ) → Option Call
pool_mfs = three name_of (keyword (codes "mfs")) decimal_number (λ name mfs size. call.PoolMfs name size)

abbrev pub pool_mvff : List (List ℕ) → Option Call
pool_mvff = two name_of (keyword (codes "mvff")) (λ name mvff. call.PoolMvff name)

abbrev pub pool_snc : List (List ℕ) → Option Call
pool_snc = two name_of (keyword (codes "snc")) (λ name snc. call.PoolFrames name)

abbrev pub pool : List (List ℕ) → Option Call
pool = or automatic_pool (or pool_on_chain (or pool_mfs (or pool_mvff pool_snc)))

abbrev pub init : List (List ℕ) → Option Call
init = or (three name_of decimal_number number_of call.InitNumber) (three name_of decimal_number slot_of call.InitReference)

abbrev pub start : List (List ℕ) → Option Call
start = or (none call.Start) (two name_of decimal_number call.StartChain)

-- ---- the forms, in groups by the letters of the alphabet; of a group those of frequent commands come first

-- a command word, and the call of the words after it
abbrev pub Form : Type 0
Form = List ℕ × (List (List ℕ) → Option Call)

abbrev pub a_to_b_forms : List Form
a_to_b_forms =
    (codes "alloc", three name_of decimal_number slot_of call.Alloc)
    ∷ (codes "addr", one slot_of call.Address)
    ∷ (codes "ap", three name_of name_of (named_in ranks) call.Point)
    ∷ (codes "area", two name_of length_of_root call.Area)
    ∷ (codes "arena", two (grains_from 1) (grains_from 0) call.Arena)
    ∷ (codes "blocks", two name_of length_of_root call.Blocks)
    ∷ []

abbrev pub c_forms : List Form
c_forms =
    (codes "commit", two name_of slot_of call.Commit)
    ∷ (codes "copy", two slot_of slot_of call.Copy)
    ∷ (codes "calloc", three name_of decimal_number slot_of call.CacheAlloc)
    ∷ (codes "cfree", two name_of slot_of call.CacheFree)
    ∷ (codes "cflush", one name_of call.CacheFlush)
    ∷ (codes "cache", cache)
    ∷ (codes "chain", chain)
    ∷ (codes "clamp", none call.Clamp)
    ∷ (codes "clear", one slot_of call.Clear)
    ∷ (codes "collect", none call.Collect)
    ∷ (codes "committed", none call.Committed)
    ∷ []

abbrev pub d_to_f_forms : List Form
d_to_f_forms =
    (codes "free", one slot_of call.Free)
    ∷ (codes "definalize", one slot_of call.Definalize)
    ∷ (codes "depend", two slot_of slot_of call.Depend)
    ∷ (codes "dropap", one name_of call.DropPoint)
    ∷ (codes "droproot", one name_of call.DropRoot)
    ∷ (codes "dump", one prefixed_hexadecimal call.Dump)
    ∷ (codes "finalize", one slot_of call.Finalize)
    ∷ []

abbrev pub g_to_k_forms : List Form
g_to_k_forms =
    (codes "get", three slot_of slot_of decimal_number call.Get)
    ∷ (codes "init", init)
    ∷ (codes "head", one slot_of call.Head)
    ∷ (codes "intern", one name_of call.Intern)
    ∷ []

abbrev pub l_forms : List Form
l_forms =
    (codes "load", two slot_of decimal_number call.Load)
    ∷ (codes "label", two slot_of name_of call.Label)
    ∷ (codes "ld", one name_of call.Dependency)
    ∷ (codes "ldadd", two name_of slot_of call.DependencyAdd)
    ∷ (codes "ldmerge", two name_of name_of call.DependencyMerge)
    ∷ (codes "ldreset", one name_of call.DependencyReset)
    ∷ (codes "ldstale", one name_of call.DependencyStale)
    ∷ (codes "limit", one (grains_from 0) call.Limit)
    ∷ (codes "live", none call.Live)
    ∷ []

abbrev pub m_to_o_forms : List Form
m_to_o_forms =
    (codes "num", two slot_of decimal_number call.Number)
    ∷ (codes "null", one slot_of call.Null)
    ∷ (codes "message", one slot_of call.Message)
    ∷ []

abbrev pub p_to_r_forms : List Form
p_to_r_forms =
    (codes "reserve", two name_of head_of call.Reserve)
    ∷ (codes "put", three slot_of decimal_number slot_of call.Put)
    ∷ (codes "park", none call.Park)
    ∷ (codes "peek", one slot_of call.Peek)
    ∷ (codes "pin", two slot_of slot_of call.Pin)
    ∷ (codes "poke", two slot_of number_of call.Poke)
    ∷ (codes "pool", pool)
    ∷ (codes "pop", two name_of decimal_number call.Pop)
    ∷ (codes "push", one name_of call.Push)
    ∷ (codes "release", none call.Release)
    ∷ []

abbrev pub s_to_z_forms : List Form
s_to_z_forms =
    (codes "setnum", three slot_of decimal_number number_of call.SetNumber)
    ∷ (codes "settag", three slot_of decimal_number tag_number call.SetTag)
    ∷ (codes "tag", two slot_of decimal_number call.Tag)
    ∷ (codes "same", two slot_of slot_of call.Same)
    ∷ (codes "store", three slot_of decimal_number number_of call.Store)
    ∷ (codes "start", start)
    ∷ (codes "step", one decimal_number call.Step)
    ∷ (codes "table", two name_of length_of_root call.Table)
    ∷ (codes "take", two slot_of slot_of call.Take)
    ∷ (codes "transadd", three name_of slot_of slot_of call.TransformAdd)
    ∷ (codes "transapply", one name_of call.TransformApply)
    ∷ (codes "transdrop", one name_of call.TransformDrop)
    ∷ (codes "transform", one name_of call.Transform)
    ∷ (codes "undepend", one slot_of call.Undepend)
    ∷ []

-- all of them
abbrev pub forms : List Form
forms =
    a_to_b_forms ++ (c_forms ++ (d_to_f_forms ++ (g_to_k_forms ++ (l_forms ++ (m_to_o_forms ++ (p_to_r_forms ++ s_to_z_forms))))))

-- ---- the call of a line

-- the call of a command word and the words after it, by these forms
abbrev pub call_in : List Form → List ℕ → List (List ℕ) → Option Call
call_in [] word ws = None
call_in (form ∷ forms) word ws = if bytes_eq word form.0 then form.1 ws else call_in forms word ws

-- the call of a command word and the words after it, by all forms
abbrev pub command_call : List ℕ → List (List ℕ) → Option Call
command_call word ws = call_in forms word ws
