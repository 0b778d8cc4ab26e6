use Rattle.std.proofs.Common.{inl, inr, arith}
use Rattle.mps_line_words.specs.Word.{words, after_word}
use Rattle.mps_script.proofs.FirstLetters.{call_by_letter, no_command}
use Rattle.mps_script.proofs.commands.command_call.Goals as goal

pub returns-in-99 : goal.returns-in-99
returns-in-99 c =
    call_by_letter 99 99 c.args.line.now (words (after_word c.args.line.now)) _ c.call_of_c.ensures
    (omega arith) (omega arith) (omega arith) (omega arith)

pub returns-in-108 : goal.returns-in-108
returns-in-108 c =
    call_by_letter 108 108 c.args.line.now (words (after_word c.args.line.now)) _ c.call_of_l.ensures
    (omega arith) (omega arith) (omega arith) (omega arith)

pub returns-in-97 : goal.returns-in-97
returns-in-97 c =
    call_by_letter 97 98 c.args.line.now (words (after_word c.args.line.now)) _ c.call_of_a_to_b.ensures
    (omega arith) (omega arith) (omega arith) (omega arith)

pub returns-in-100 : goal.returns-in-100
returns-in-100 c =
    call_by_letter 100 102 c.args.line.now (words (after_word c.args.line.now)) _ c.call_of_d_to_f.ensures
    (omega arith) (omega arith) (omega arith) (omega arith)

pub returns-in-103 : goal.returns-in-103
returns-in-103 c =
    call_by_letter 103 107 c.args.line.now (words (after_word c.args.line.now)) _ c.call_of_g_to_k.ensures
    (omega arith) (omega arith) (omega arith) (omega arith)

pub returns-in-109 : goal.returns-in-109
returns-in-109 c =
    call_by_letter 109 111 c.args.line.now (words (after_word c.args.line.now)) _ c.call_of_m_to_o.ensures
    (omega arith) (omega arith) (omega arith) (omega arith)

pub returns-in-112 : goal.returns-in-112
returns-in-112 c =
    call_by_letter 112 114 c.args.line.now (words (after_word c.args.line.now)) _ c.call_of_p_to_r.ensures
    (omega arith) (omega arith) (omega arith) (omega arith)

pub returns-in-115 : goal.returns-in-115
returns-in-115 c =
    call_by_letter 115 122 c.args.line.now (words (after_word c.args.line.now)) _ c.call_of_s_to_z.ensures
    (omega arith) (omega arith) (omega arith) (omega arith)

pub returns-in_default-2 : goal.returns-in_default-2
returns-in_default-2 c = no_command c.args.line.now (words (after_word c.args.line.now)) (inl (omega arith))

pub returns-in_default-3 : goal.returns-in_default-3
returns-in_default-3 c = no_command c.args.line.now (words (after_word c.args.line.now)) (inr (omega arith))
