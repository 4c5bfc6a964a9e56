use Rattle.custody.proofs.ScanLaws.{descriptors_page_decides, descriptors_seg_decides}
use Rattle.custody.proofs.tables.Custody.descriptors_are_named.Goals as goal

pub returns-in-Page : goal.returns-in-Page
returns-in-Page c = rw c.in-Page.is (descriptors_page_decides c.args.self.now c.some_descriptor_goes.result
    c.in-Page.field-0 c.some_descriptor_goes.ensures)

pub returns-in-Seg : goal.returns-in-Seg
returns-in-Seg c = rw c.in-Seg.is (descriptors_seg_decides c.args.self.now c.some_descriptor_goes_but_of.result
    c.in-Seg.uid c.some_descriptor_goes_but_of.ensures)
