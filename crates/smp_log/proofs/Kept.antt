-- What a log's script follows of the whole lines of some bytes is what is kept of them, and it accepts the genuine logs alone.
use Rattle.std.proofs.Common.{◌≡◌, ℕ, ◌+◌, List, [], ◌∷◌, ◌++◌, length, map, refl, sym, ap, ◌∙◌, arith}
use Rattle.smp_split.specs.{Trees.{Tree, Lawful}, Paths.{Entry}}
use Rattle.smp_log.specs.{Lines.{lines_text, AreLines}, Logs.{steps_text, end_text, log_text}, Genuine.{IsGenuine, IsLogText}}
use Rattle.smp_log.specs.Reading.{step_line, end_line, Script, LogPlace, before, closed, log_script}
use Rattle.smp_log.proofs.{Texts.{AreLines-append, lines_text-append}, StepLines.{end_line_lacks}}
use Rattle.smp_log.proofs.{LineTexts.{steps_lines, end_text_line, step_lines_are}, Described.{Describes, path_log, text_accepted}}
use Rattle.smp_log.proofs.Logs.{lines_after, path_accepted, accepted_path, head_accepted, accepted_head, Good, good_before, keeps, each_ends}

pub lines_after_are : (n : ℕ) (path : List Entry) → AreLines (lines_after end_line n path)
lines_after_are n path = AreLines-append (map step_line path) (end_line (n + length path) ∷ []) (step_lines_are path) (end_line_lacks (n + length path), tt)

closed_is : {State : Type 0} (a b : State) → closed a ≡ closed b → a ≡ b
closed_is a b h = cc

module _ {State : Type 0} (tree : Tree State) (belongs : State → Type 0) (lawful : Lawful tree belongs) (from : State) (member : belongs from)
    (head : List ℕ) (hs : List (List ℕ)) (head_is : head ≡ lines_text hs) (hs_are : AreLines hs) where
  abbrev pub log_script_here : Script (LogPlace State)
  log_script_here = log_script tree end_line from

  -- the text of a log by its lines
  pub log_lines : (path : List Entry) → log_text head path ≡ lines_text (hs ++ lines_after end_line 0 path)
  log_lines path =
      let none : length path ≡ 0 + length path = omega arith in
      ap (λ h. h ++ (steps_text path ++ end_text (length path))) head_is
      ∙ ap (λ t. lines_text hs ++ (steps_text path ++ t)) (end_text_line (length path))
      ∙ ap (λ t. lines_text hs ++ t) (steps_lines path (end_line (length path) ∷ []))
      ∙ ap (λ n. lines_text hs ++ lines_text (map step_line path ++ end_line n ∷ [])) none
      ∙ sym (lines_text-append hs (lines_after end_line 0 path))

  pub log_lines_are : (path : List Entry) → AreLines (hs ++ lines_after end_line 0 path)
  log_lines_are path = AreLines-append hs (lines_after end_line 0 path) hs_are (lines_after_are 0 path)

  -- so the script describes the genuine logs
  pub described : Describes log_script_here (before from hs) closed (IsGenuine tree from head)
  described = record {
    complete = λ log leaf genuine. text_accepted log_script_here (before from hs) closed log (hs ++ lines_after end_line 0 genuine.path) leaf (genuine.text ∙ log_lines genuine.path) (log_lines_are genuine.path)
        (head_accepted tree belongs lawful from member end_line hs (lines_after end_line 0 genuine.path) (closed leaf)
        (path_accepted tree belongs lawful from member end_line genuine.path 0 from leaf member genuine.full.leads genuine.full.done));
    sound = λ lines to h.
        (let split = accepted_head tree belongs lawful from member end_line hs lines to h in
        let on = accepted_path tree belongs lawful from member end_line split.rest 0 from to member split.accepted in
        path_log closed (IsLogText head) tree from lines (hs ++ lines_after end_line 0 on.path) to on.path on.leaf (split.lines_are ∙ ap (λ ls. hs ++ ls) on.lines_are) (log_lines_are on.path)
        (sym (log_lines on.path)) on.leads on.done on.end);
    Good = Good tree belongs lawful from member end_line;
    starts = good_before tree belongs lawful from member end_line hs;
    keeps = keeps tree belongs lawful from member end_line;
    ends = each_ends tree belongs lawful from member end_line;
    closes = λ a b h. closed_is a b h;
    over = λ s. refl;
    last = λ s line. refl;
  }
