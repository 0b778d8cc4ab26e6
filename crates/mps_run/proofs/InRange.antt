-- The calls of lines have their numbers in the ranges of the script.
use Rattle.std.proofs.Common.{◌≡◌, ℕ, Bool, true, false, Option, Some, None, List, [], ◌∷◌, ◌++◌, length, refl, arith, if◌then◌else◌, nat_lt}
use Rattle.std.specs.Prelude.{Ok, Err, codes, bytes_eq, IsTrue}
use Rattle.mps_base.specs.declared.names.Kind.{Kind}
use Rattle.mps_base.specs.declared.names.Name.{Name}
use Rattle.mps_model.specs.declared.call.Call.{Call}
use Rattle.mps_model.specs.declared.call.Call.TheVariants as call
use Rattle.mps_answers.specs.Lines.{max_line_bytes}
use Rattle.mps_answers.specs.Word.{words}
use Rattle.mps_answers.specs.Reading.{named_in, single, onto, pair}
use Rattle.mps_script.specs.Calls.{none, one, two, three, or}
use Rattle.mps_numerals.specs.Decimal.{decimal_number}
use Rattle.mps_answers.specs.Number.{number_of, prefixed_hexadecimal}
use Rattle.mps_answers.specs.Name.{name_of, slot_of}
use Rattle.mps_answers.specs.Head.{head_of}
use Rattle.mps_script.specs.Form.{Form, kinds, kinds_on_chains, formats, ranks, keyword, grains_from, length_of_root, tag_number, automatic_pool, pool_on_chain, pool_mfs, pool_mvff, pool_snc, pool, init, start, a_to_b_forms, c_forms, d_to_f_forms, g_to_k_forms, l_forms, m_to_o_forms, p_to_r_forms, s_to_z_forms, forms, call_in, command_call}
use Rattle.mps_script.specs.Line.{begins_comment, or_bad, call_of_words, call_of_line}
use Rattle.mps_script.specs.declared.line.BadLine.{BadLine}
use Rattle.mps_commands.specs.Range.{IsInRange, IsPaddedName, may_be_on_chain, IsFormat}
use Rattle.mps_run.proofs.Interning.{named_in_range}
use Rattle.mps_run.proofs.RangesOfReadings.{AreInRange, FormInRange, nothing_in_range, either_in_range, within_range, and_then_in_range, none_in_range, one_in_range, two_in_range, three_in_range, or_in_range, single_gives, named_gives, onto_gives, Anything, IsWithin}
use Rattle.mps_run.proofs.RangesOfLists.{cache_in_range, chain_in_range}

arena_in_range : FormInRange (two (grains_from 1) (grains_from 0) call.Arena)
arena_in_range ws =
    and_then_in_range (λ p. call.Arena p.0 p.1) (pair (grains_from 1) (grains_from 0) ws) (λ p e.
    let within = onto_gives (IsWithin 1 2048) (IsWithin 0 2048) (grains_from 1) (single (grains_from 0)) (within_range 1 2048)
    (single_gives (IsWithin 0 2048) (grains_from 0) (within_range 0 2048)) ws p e in
    (within.0.0, within.0.1, within.1.1))

limit_in_range : FormInRange (one (grains_from 0) call.Limit)
limit_in_range ws =
    and_then_in_range call.Limit (single (grains_from 0) ws) (λ n e.
    (single_gives (IsWithin 0 2048) (grains_from 0) (within_range 0 2048) ws n e).1)

-- a name, and the length of a root
root_within : (ws : List (List ℕ)) (p : Name × ℕ) → pair name_of length_of_root ws ≡ Some p → IsWithin 1 65536 p.1
root_within ws p e =
    (onto_gives Anything (IsWithin 1 65536) name_of (single length_of_root) (λ word x e. tt)
    (single_gives (IsWithin 1 65536) length_of_root (within_range 1 65536)) ws p e).1

table_in_range : FormInRange (two name_of length_of_root call.Table)
table_in_range ws = and_then_in_range (λ p. call.Table p.0 p.1) (pair name_of length_of_root ws) (root_within ws)

area_in_range : FormInRange (two name_of length_of_root call.Area)
area_in_range ws = and_then_in_range (λ p. call.Area p.0 p.1) (pair name_of length_of_root ws) (root_within ws)

blocks_in_range : FormInRange (two name_of length_of_root call.Blocks)
blocks_in_range ws = and_then_in_range (λ p. call.Blocks p.0 p.1) (pair name_of length_of_root ws) (root_within ws)

intern_in_range : FormInRange (one name_of call.Intern)
intern_in_range ws =
    and_then_in_range call.Intern (single name_of ws) (λ name e.
    single_gives IsPaddedName name_of (λ word x is. named_in_range word x is) ws name e)

tag_in_range : FormInRange (three slot_of decimal_number tag_number call.SetTag)
tag_in_range ws =
    and_then_in_range (λ p. call.SetTag p.0 p.1.0 p.1.1) (onto slot_of (pair decimal_number tag_number) ws) (λ p e.
    let within = (onto_gives Anything (λ q. IsWithin 0 7 q.1) slot_of (pair decimal_number tag_number) (λ word x e. tt)
    (λ ws q e. (onto_gives Anything (IsWithin 0 7) decimal_number (single tag_number) (λ word x e. tt)
    (single_gives (IsWithin 0 7) tag_number (within_range 0 7)) ws q e).1) ws p e).1 in
    omega (arith, within.1))

-- ---- pools

format_given : (word : List ℕ) (n : ℕ) → named_in formats word ≡ Some n → IsFormat n
format_given = named_gives IsFormat formats ((omega arith, omega arith), ((omega arith, omega arith), ((omega arith, omega arith), tt)))

kind_given : (word : List ℕ) (kind : Kind) → named_in kinds_on_chains word ≡ Some kind → IsTrue (may_be_on_chain kind)
kind_given = named_gives (λ kind. IsTrue (may_be_on_chain kind)) kinds_on_chains (refl, (refl, tt))

automatic_pool_in_range : FormInRange automatic_pool
automatic_pool_in_range ws =
    and_then_in_range (λ p. call.Pool p.0 p.1.0 p.1.1) (onto name_of (pair (named_in kinds) (named_in formats)) ws) (λ p e.
    (onto_gives Anything (λ q. IsFormat q.1) name_of (pair (named_in kinds) (named_in formats)) (λ word x e. tt)
    (λ ws q e. (onto_gives Anything IsFormat (named_in kinds) (single (named_in formats)) (λ word x e. tt)
    (single_gives IsFormat (named_in formats) format_given) ws q e).1) ws p e).1)

-- the kind and the format of a pool on a chain
abbrev AreOfChain : Kind × (ℕ × Name) → Type 0
AreOfChain q = IsTrue (may_be_on_chain q.0) × IsFormat q.1.0

of_chain : (ws : List (List ℕ)) (q : Kind × (ℕ × Name))
    → onto (named_in kinds_on_chains) (pair (named_in formats) name_of) ws ≡ Some q → AreOfChain q
of_chain ws q e =
    onto_gives (λ kind. IsTrue (may_be_on_chain kind)) (λ r. IsFormat r.0) (named_in kinds_on_chains) (pair (named_in formats) name_of)
    kind_given
    (λ ws r e. (onto_gives IsFormat Anything (named_in formats) (single name_of) format_given
    (single_gives Anything name_of (λ word x e. tt)) ws r e).0) ws q e

pool_on_chain_in_range : FormInRange pool_on_chain
pool_on_chain_in_range ws =
    and_then_in_range (λ p. call.PoolOnChain p.0 p.1.0 p.1.1.0 p.1.1.1)
    (onto name_of (onto (named_in kinds_on_chains) (pair (named_in formats) name_of)) ws) (λ p e.
    (onto_gives Anything AreOfChain name_of (onto (named_in kinds_on_chains) (pair (named_in formats) name_of)) (λ word x e. tt)
    of_chain ws p e).1)

pool_in_range : FormInRange pool
pool_in_range =
    or_in_range automatic_pool (or pool_on_chain (or pool_mfs (or pool_mvff pool_snc))) automatic_pool_in_range
    (or_in_range pool_on_chain (or pool_mfs (or pool_mvff pool_snc)) pool_on_chain_in_range
    (or_in_range pool_mfs (or pool_mvff pool_snc)
    (three_in_range name_of (keyword (codes "mfs")) decimal_number (λ name mfs size. call.PoolMfs name size) (λ x y z. tt))
    (or_in_range pool_mvff pool_snc
    (two_in_range name_of (keyword (codes "mvff")) (λ name mvff. call.PoolMvff name) (λ x y. tt))
    (two_in_range name_of (keyword (codes "snc")) (λ name snc. call.PoolFrames name) (λ x y. tt)))))

init_in_range : FormInRange init
init_in_range =
    or_in_range (three name_of decimal_number number_of call.InitNumber) (three name_of decimal_number slot_of call.InitReference)
    (three_in_range name_of decimal_number number_of call.InitNumber (λ x y z. tt))
    (three_in_range name_of decimal_number slot_of call.InitReference (λ x y z. tt))

start_in_range : FormInRange start
start_in_range =
    or_in_range (none call.Start) (two name_of decimal_number call.StartChain) (none_in_range call.Start tt)
    (two_in_range name_of decimal_number call.StartChain (λ x y. tt))

-- ---- all forms

abbrev AllInRange : List Form → Type 0
AllInRange [] = Unit {0}
AllInRange (form ∷ forms) = FormInRange form.1 × AllInRange forms

forms_in_range : (forms : List Form) → AllInRange forms → (word : List ℕ) (ws : List (List ℕ)) → AreInRange (call_in forms word ws)
forms_in_range [] h word ws = nothing_in_range
forms_in_range (form ∷ forms) h word ws =
    either_in_range (bytes_eq word form.0) (form.1 ws) (call_in forms word ws) (h.0 ws) (forms_in_range forms h.1 word ws)

both_in_range : (these those : List Form) → AllInRange these → AllInRange those → AllInRange (these ++ those)
both_in_range [] those h k = k
both_in_range (form ∷ these) those h k = (h.0, both_in_range these those h.1 k)

a_to_b_in_range : AllInRange a_to_b_forms
a_to_b_in_range = (
  three_in_range name_of decimal_number slot_of call.Alloc (λ x y z. tt),
  (
    one_in_range slot_of call.Address (λ x. tt),
    (
      three_in_range name_of name_of (named_in ranks) call.Point (λ x y z. tt),
      (
        area_in_range,
        (
          arena_in_range,
          (blocks_in_range, tt),
        ),
      ),
    ),
  ),
)

c_in_range : AllInRange c_forms
c_in_range = (
  two_in_range name_of slot_of call.Commit (λ x y. tt),
  (
    two_in_range slot_of slot_of call.Copy (λ x y. tt),
    (
      three_in_range name_of decimal_number slot_of call.CacheAlloc (λ x y z. tt),
      (
        two_in_range name_of slot_of call.CacheFree (λ x y. tt),
        (
          one_in_range name_of call.CacheFlush (λ x. tt),
          (
            cache_in_range,
            (
              chain_in_range,
              (
                none_in_range call.Clamp tt,
                (
                  one_in_range slot_of call.Clear (λ x. tt),
                  (
                    none_in_range call.Collect tt,
                    (none_in_range call.Committed tt, tt),
                  ),
                ),
              ),
            ),
          ),
        ),
      ),
    ),
  ),
)

d_to_f_in_range : AllInRange d_to_f_forms
d_to_f_in_range = (
  one_in_range slot_of call.Free (λ x. tt),
  (
    one_in_range slot_of call.Definalize (λ x. tt),
    (
      two_in_range slot_of slot_of call.Depend (λ x y. tt),
      (
        one_in_range name_of call.DropPoint (λ x. tt),
        (
          one_in_range name_of call.DropRoot (λ x. tt),
          (
            one_in_range prefixed_hexadecimal call.Dump (λ x. tt),
            (one_in_range slot_of call.Finalize (λ x. tt), tt),
          ),
        ),
      ),
    ),
  ),
)

g_to_k_in_range : AllInRange g_to_k_forms
g_to_k_in_range = (
  three_in_range slot_of slot_of decimal_number call.Get (λ x y z. tt),
  (
    init_in_range,
    (one_in_range slot_of call.Head (λ x. tt), (intern_in_range, tt)),
  ),
)

l_in_range : AllInRange l_forms
l_in_range = (
  two_in_range slot_of decimal_number call.Load (λ x y. tt),
  (
    two_in_range slot_of name_of call.Label (λ x y. tt),
    (
      one_in_range name_of call.Dependency (λ x. tt),
      (
        two_in_range name_of slot_of call.DependencyAdd (λ x y. tt),
        (
          two_in_range name_of name_of call.DependencyMerge (λ x y. tt),
          (
            one_in_range name_of call.DependencyReset (λ x. tt),
            (
              one_in_range name_of call.DependencyStale (λ x. tt),
              (
                limit_in_range,
                (none_in_range call.Live tt, tt),
              ),
            ),
          ),
        ),
      ),
    ),
  ),
)

m_to_o_in_range : AllInRange m_to_o_forms
m_to_o_in_range = (
  two_in_range slot_of decimal_number call.Number (λ x y. tt),
  (
    one_in_range slot_of call.Null (λ x. tt),
    (one_in_range slot_of call.Message (λ x. tt), tt),
  ),
)

p_to_r_in_range : AllInRange p_to_r_forms
p_to_r_in_range = (
  two_in_range name_of head_of call.Reserve (λ x y. tt),
  (
    three_in_range slot_of decimal_number slot_of call.Put (λ x y z. tt),
    (
      none_in_range call.Park tt,
      (
        one_in_range slot_of call.Peek (λ x. tt),
        (
          two_in_range slot_of slot_of call.Pin (λ x y. tt),
          (
            two_in_range slot_of number_of call.Poke (λ x y. tt),
            (
              pool_in_range,
              (
                two_in_range name_of decimal_number call.Pop (λ x y. tt),
                (
                  one_in_range name_of call.Push (λ x. tt),
                  (none_in_range call.Release tt, tt),
                ),
              ),
            ),
          ),
        ),
      ),
    ),
  ),
)

s_to_z_in_range : AllInRange s_to_z_forms
s_to_z_in_range = (
  three_in_range slot_of decimal_number number_of call.SetNumber (λ x y z. tt),
  (
    tag_in_range,
    (
      two_in_range slot_of decimal_number call.Tag (λ x y. tt),
      (
        two_in_range slot_of slot_of call.Same (λ x y. tt),
        (
          three_in_range slot_of decimal_number number_of call.Store (λ x y z. tt),
          (
            start_in_range,
            (
              one_in_range decimal_number call.Step (λ x. tt),
              (
                table_in_range,
                (
                  two_in_range slot_of slot_of call.Take (λ x y. tt),
                  (
                    three_in_range name_of slot_of slot_of call.TransformAdd (λ x y z. tt),
                    (
                      one_in_range name_of call.TransformApply (λ x. tt),
                      (
                        one_in_range name_of call.TransformDrop (λ x. tt),
                        (
                          one_in_range name_of call.Transform (λ x. tt),
                          (one_in_range slot_of call.Undepend (λ x. tt), tt),
                        ),
                      ),
                    ),
                  ),
                ),
              ),
            ),
          ),
        ),
      ),
    ),
  ),
)

all_in_range : AllInRange forms
all_in_range =
    both_in_range a_to_b_forms (c_forms ++ (d_to_f_forms ++ (g_to_k_forms ++ (l_forms ++ (m_to_o_forms ++
    (p_to_r_forms ++ s_to_z_forms)))))) a_to_b_in_range
    (both_in_range c_forms (d_to_f_forms ++ (g_to_k_forms ++ (l_forms ++ (m_to_o_forms ++ (p_to_r_forms ++ s_to_z_forms))))) c_in_range
    (both_in_range d_to_f_forms (g_to_k_forms ++ (l_forms ++ (m_to_o_forms ++ (p_to_r_forms ++ s_to_z_forms)))) d_to_f_in_range
    (both_in_range g_to_k_forms (l_forms ++ (m_to_o_forms ++ (p_to_r_forms ++ s_to_z_forms))) g_to_k_in_range
    (both_in_range l_forms (m_to_o_forms ++ (p_to_r_forms ++ s_to_z_forms)) l_in_range
    (both_in_range m_to_o_forms (p_to_r_forms ++ s_to_z_forms) m_to_o_in_range
    (both_in_range p_to_r_forms s_to_z_forms p_to_r_in_range
    s_to_z_in_range))))))

command_in_range : (word : List ℕ) (ws : List (List ℕ)) → AreInRange (command_call word ws)
command_in_range word ws = forms_in_range forms all_in_range word ws

-- ---- lines

or_bad_in_range : (o : Option Call) (c : Call) → AreInRange o → or_bad o ≡ Ok (Some c) → IsInRange c
or_bad_in_range None c h e = absurd (let wrong : or_bad None ≡ Ok (Some c) = e in cc)
or_bad_in_range (Some d) c h e = h c (let same : Ok (Some d) ≡ Ok (Some c) = e in cc)

word_in_range : (comment : Bool) (o : Option Call) (c : Call) → AreInRange o
    → (if comment then Ok None else or_bad o) ≡ Ok (Some c) → IsInRange c
word_in_range true o c h e = absurd (let wrong : Ok None ≡ Ok (Some c) = e in cc)
word_in_range false o c h e = or_bad_in_range o c h e

words_in_range : (ws : List (List ℕ)) (c : Call) → call_of_words ws ≡ Ok (Some c) → IsInRange c
words_in_range [] c e = absurd (let wrong : Ok None ≡ Ok (Some c) = e in cc)
words_in_range (word ∷ ws) c e = word_in_range (begins_comment word) (command_call word ws) c (command_in_range word ws) e

line_in_range : (long : Bool) (bad : BadLine) (ws : List (List ℕ)) (c : Call) → (if long then Err bad else call_of_words ws) ≡ Ok (Some c)
    → IsInRange c
line_in_range true bad ws c e = absurd (let wrong : Err bad ≡ Ok (Some c) = e in cc)
line_in_range false bad ws c e = words_in_range ws c e

-- the call of a line is in range
pub call_in_range : (line : List ℕ) (c : Call) → call_of_line line ≡ Ok (Some c) → IsInRange c
call_in_range line c e = line_in_range (nat_lt max_line_bytes (length line)) (record {}) (words line) c e
