pub mod ItemsByIndex
pub mod FewNodes
