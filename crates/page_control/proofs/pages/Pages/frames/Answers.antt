use Rattle.page_control.proofs.Looks.{frame_named, plain, words_named}
use Rattle.page_control.proofs.pages.Pages.frames.Goals as goal

pub returns-clause-named : goal.returns-clause-named
returns-clause-named g c = λ uid p f words table word. frame_named c.args.self.now.core table word

pub returns-clause-words : goal.returns-clause-words
returns-clause-words g c = λ uid p f home words table word. words_named (plain g.D.Drive.pages c.args.self.now) uid p f
    home words table word
