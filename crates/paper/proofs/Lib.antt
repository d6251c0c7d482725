mod KeyScans
mod LineCounts
