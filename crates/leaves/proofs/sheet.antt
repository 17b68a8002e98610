pub mod ForestLaws
pub mod KindLaws
pub mod RecordLaws
pub mod RootLaws
pub mod SiblingLaws
pub mod TextLaws
pub mod TreeLaws
pub mod TreesLaws
